pub mod Texts
pub mod Line
pub mod Seen
