pub mod Phases
pub mod Rights
pub mod Passed
