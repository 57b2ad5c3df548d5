pub mod Benches
pub mod Certified
pub mod Checked
pub mod Courses
pub mod Designs
pub mod Growing
pub mod Inductions
pub mod Judgements
pub mod Named
pub mod Paths
pub mod Posings
pub mod Shown
pub mod Tables
pub mod Turns
mod Counting
