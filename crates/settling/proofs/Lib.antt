pub mod Classes
pub mod Rounds
pub mod Least
pub mod More
pub mod Events
pub mod Overriding
mod Rows
