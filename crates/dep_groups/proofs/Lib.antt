pub mod Chaining
pub mod Meeting
pub mod Uniting
pub mod Closing
pub mod Searching
