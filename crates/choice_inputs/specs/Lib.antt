pub mod Questions
pub mod Inputs
pub mod Tables
