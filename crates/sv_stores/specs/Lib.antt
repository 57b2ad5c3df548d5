pub mod Scenes
pub mod Starting
