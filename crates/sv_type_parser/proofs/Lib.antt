pub mod Limits
pub mod Params
pub mod Ports
pub mod Rules
pub mod Types
pub mod Words
