pub mod Groups
pub mod Searches
