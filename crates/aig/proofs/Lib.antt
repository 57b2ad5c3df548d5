pub mod Values
pub mod Growth
pub mod Finding
pub mod Summing
pub mod Linked
pub mod Cones
