pub mod Feeding
pub mod Telling
pub mod Leading
pub mod Listing
pub mod Keeping
pub mod Ordered
