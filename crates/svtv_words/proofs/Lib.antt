pub mod OneWord
pub mod Numbers
pub mod Options
pub mod Names
pub mod Sound
pub mod Complete
pub mod Commands
pub mod Turns
