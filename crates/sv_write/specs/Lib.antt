pub mod Adds
pub mod Design
pub mod Exprs
pub mod Forms
pub mod Stmts
pub mod Writing
pub mod Modules
pub mod Spelt
