pub mod Runs
pub mod Truths
pub mod Leasts
pub mod Laws
