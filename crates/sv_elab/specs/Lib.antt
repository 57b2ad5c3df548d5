pub mod Elaborated
pub mod Working
pub mod Passed
