pub mod Texts
pub mod Refusals
pub mod Shown
pub mod Seen
pub mod Invariants
