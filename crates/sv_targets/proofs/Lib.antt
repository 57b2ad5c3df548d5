pub mod Targeting
pub mod Assignable
pub mod Slotting
pub mod Spreading
pub mod Having
