pub mod Equations
pub mod Groups
