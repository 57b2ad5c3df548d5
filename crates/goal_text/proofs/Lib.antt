pub mod Declared
pub mod Judged
pub mod Scoped
pub mod Texts
pub mod Truths
