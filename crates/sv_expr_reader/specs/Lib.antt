pub mod Answers
pub mod Climbing
pub mod Heights
pub mod Nests
pub mod Reading
pub mod Seeking
