pub mod Walks
pub mod Looping
pub mod Items
pub mod Instances
