pub mod Learn
pub mod Walk
pub mod Found
pub mod Lesson
pub mod Start
