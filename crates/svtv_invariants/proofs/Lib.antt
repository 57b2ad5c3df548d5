mod Reading
mod Breaking
mod Saying
pub mod Halving
mod Keeping
