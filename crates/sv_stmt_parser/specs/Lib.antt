pub mod Loops
pub mod Stmts
pub mod Targets
pub mod Within
