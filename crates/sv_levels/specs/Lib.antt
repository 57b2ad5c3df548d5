pub mod Levels
pub mod Tasks
pub mod Overriding
pub mod Ports
pub mod Library
pub mod Wires
