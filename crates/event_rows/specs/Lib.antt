pub mod Settled
pub mod Sound
