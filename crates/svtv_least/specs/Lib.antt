pub mod Running
pub mod Passed
