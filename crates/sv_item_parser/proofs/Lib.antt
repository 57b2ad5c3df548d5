pub mod Blocks
pub mod Firsts
pub mod GenLevel
pub mod Gens
pub mod Instances
pub mod ItemLevel
pub mod Items
