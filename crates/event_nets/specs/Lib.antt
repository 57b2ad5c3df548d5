pub mod Gifts
pub mod Nets
pub mod Runs
pub mod Needs
pub mod Tables
