pub mod Scopes
pub mod Libraries
