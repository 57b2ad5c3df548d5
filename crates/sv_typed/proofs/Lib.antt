pub mod Operators
pub mod Long
pub mod Made
pub mod Names
pub mod Parts
pub mod Named
pub mod Sound
pub mod Lists
pub mod Vectors
pub mod Powers
pub mod Below
pub mod Worth
mod Rows
