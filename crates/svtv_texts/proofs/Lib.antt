pub mod Dumping
pub mod Verdicts
pub mod Passed
