pub mod Rails
pub mod Starts
pub mod Steps
pub mod Truths
pub mod Ways
