pub mod Ways
pub mod Trees
pub mod Linking
pub mod Keeping
