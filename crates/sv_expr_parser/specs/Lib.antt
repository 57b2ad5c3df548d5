pub mod Ends
pub mod Parsed
