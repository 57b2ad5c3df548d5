pub mod Arms
pub mod Begins
pub mod Firsts
pub mod Steps
pub mod StmtLevel
pub mod Stmts
pub mod Targets
