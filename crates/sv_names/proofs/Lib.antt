pub mod Sound
pub mod Lookups
pub mod Latest
pub mod Ends
pub mod Places
