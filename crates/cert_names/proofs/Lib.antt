pub mod Pairs
pub mod Logs
pub mod Places
pub mod Walks
