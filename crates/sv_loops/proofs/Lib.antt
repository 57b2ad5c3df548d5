pub mod Values
pub mod Moves
pub mod Chains
pub mod Frames
