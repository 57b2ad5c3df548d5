pub mod Rounds
pub mod Sources
pub mod States
pub mod Wires
pub mod Answers
pub mod Turns
