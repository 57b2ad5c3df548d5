pub mod Tables
pub mod Steps
pub mod Grown
pub mod Numbers
pub mod Moves
pub mod Parities
