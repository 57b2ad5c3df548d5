pub mod Blocks
pub mod Passed
