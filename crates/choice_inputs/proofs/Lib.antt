pub mod Chosen
pub mod Asked
pub mod Resolving
