pub mod Constants
pub mod Literals
