pub mod Halves
pub mod Inducting
pub mod States
pub mod Putting
pub mod Showing
