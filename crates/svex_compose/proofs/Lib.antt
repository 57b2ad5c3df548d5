pub mod Reaching
pub mod Composing
pub mod Depending
mod Weighing
mod Settling
mod Wiring
