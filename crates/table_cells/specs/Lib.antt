pub mod Cells
pub mod Constants
