pub mod Deciding
pub mod Finding
pub mod Halving
pub mod Showing
