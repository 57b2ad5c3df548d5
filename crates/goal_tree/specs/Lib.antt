pub mod Goals
pub mod Parsed
pub mod Reading
