pub mod Instances
pub mod Pins
