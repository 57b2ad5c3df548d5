pub mod Turns
pub mod Short
mod Rows
