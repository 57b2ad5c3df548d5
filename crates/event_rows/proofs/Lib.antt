pub mod Naming
pub mod Valued
