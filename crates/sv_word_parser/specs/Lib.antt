pub mod Combined
pub mod Connections
pub mod Words
