pub mod Sizes
pub mod Reads
pub mod Knowns
pub mod Chosen
