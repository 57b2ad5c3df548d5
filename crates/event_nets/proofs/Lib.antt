pub mod Reading
pub mod Homes
pub mod Giving
pub mod Laying
pub mod Cutting
mod Joining
pub mod NetPlaces
pub mod FlatNets
pub mod Making
pub mod Gathering
pub mod Needed
mod Rows
mod Backs
