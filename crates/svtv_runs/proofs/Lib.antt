pub mod Stimuli
pub mod Runs
pub mod Truths
