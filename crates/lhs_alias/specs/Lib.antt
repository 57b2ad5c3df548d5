pub mod Joined
pub mod Lies
pub mod Pairs
pub mod Roots
pub mod Segs
