pub mod Tables
pub mod Growing
pub mod Lists
pub mod Truths
pub mod Picking
pub mod Moving
pub mod Starting
pub mod Windows
pub mod Laying
pub mod Parities
mod Stepping
