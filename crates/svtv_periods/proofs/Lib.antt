pub mod Ends
pub mod Holding
pub mod Words
mod Examples
