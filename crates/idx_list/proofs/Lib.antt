pub mod Chains
pub mod Rings
