pub mod Loops
pub mod Passed
