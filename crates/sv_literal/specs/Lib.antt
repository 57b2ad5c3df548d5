pub mod Meaning
pub mod Value
