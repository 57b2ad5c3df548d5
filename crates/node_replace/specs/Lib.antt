pub mod Walks
pub mod Replacing
