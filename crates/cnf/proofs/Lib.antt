pub mod Solutions
pub mod Walks
