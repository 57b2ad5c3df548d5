pub mod Settling
pub mod Least
pub mod Events
pub mod Overriding
