pub mod Sayings
pub mod Lines
pub mod Words
