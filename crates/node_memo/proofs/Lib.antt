pub mod Rows
pub mod Downs
pub mod Ups
