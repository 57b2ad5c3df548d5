pub mod Readers
pub mod Fits
