pub mod Texts
pub mod Doing
pub mod Typing
pub mod Listing
