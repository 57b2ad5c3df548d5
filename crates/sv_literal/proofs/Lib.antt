pub mod Decimals
pub mod Parts
pub mod Vectors
