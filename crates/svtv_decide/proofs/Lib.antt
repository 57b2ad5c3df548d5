pub mod Reading
pub mod Zips
pub mod Deciding
pub mod Passed
