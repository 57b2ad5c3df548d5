pub mod Bits
pub mod Renaming
