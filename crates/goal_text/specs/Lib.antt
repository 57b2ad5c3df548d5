pub mod Faults
pub mod Goals
pub mod Nodes
pub mod Scopes
