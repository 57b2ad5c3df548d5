pub mod Nodes
pub mod Lowering
