pub mod Marking
pub mod Leading
pub mod Orders
pub mod Acting
pub mod Casing
pub mod Producing
pub mod Rooting
pub mod Aiming
