pub mod Turns
pub mod Sets
pub mod Libraries
pub mod Named
pub mod Instances
pub mod Given
pub mod Pinned
