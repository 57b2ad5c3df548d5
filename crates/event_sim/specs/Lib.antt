pub mod Linked
pub mod Passes
pub mod Queues
pub mod Rows
pub mod Sims
pub mod Steps
