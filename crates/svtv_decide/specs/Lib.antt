pub mod Posing
pub mod Passed
