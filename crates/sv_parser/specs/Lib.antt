pub mod Answers
pub mod Source
pub mod TwoState
pub mod Whole
