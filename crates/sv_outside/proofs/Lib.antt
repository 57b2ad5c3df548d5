pub mod Contents
pub mod Counts
pub mod Reserved
pub mod Written
