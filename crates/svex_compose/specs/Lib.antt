pub mod Composed
pub mod Starting
pub mod Grouping
