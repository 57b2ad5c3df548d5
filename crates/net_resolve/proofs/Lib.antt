mod Ranges
pub mod Mentioning
mod Making
mod Piecing
mod Rows
pub mod Running
mod Given
mod Sound
mod Solving
mod Whole
mod Pairing
mod Growing
