mod Lists
mod Giving
mod Stemming
mod Segments
mod Feeding
pub mod Wide
pub mod Passed
