pub mod Literals
pub mod Judging
pub mod Ranges
pub mod Picks
pub mod Roots
pub mod Casts
pub mod Positions
