mod Adding
pub mod Growing
mod Making
mod Narrow
