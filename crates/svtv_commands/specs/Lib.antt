pub mod Courses
pub mod Done
pub mod Inputs
pub mod Judged
pub mod Machines
