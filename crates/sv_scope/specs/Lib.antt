pub mod Filing
pub mod Scoped
