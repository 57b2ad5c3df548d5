pub mod Pieces
pub mod Runs
pub mod Resolving
pub mod Laid
