pub mod Answers
pub mod Legal
pub mod Outcomes
