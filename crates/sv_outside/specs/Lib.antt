pub mod Literals
pub mod Memory
pub mod Outside
pub mod Paths
pub mod Text
pub mod Words
