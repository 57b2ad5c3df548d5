pub mod Naming
pub mod Putting
pub mod Libraries
pub mod Named
pub mod Listed
pub mod Connections
