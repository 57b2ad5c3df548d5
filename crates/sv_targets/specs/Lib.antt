pub mod Targets
pub mod Slots
