pub mod Goals
pub mod Rooms
pub mod Gating
