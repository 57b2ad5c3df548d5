pub mod Values
pub mod Onto
pub mod Forms
pub mod Written
