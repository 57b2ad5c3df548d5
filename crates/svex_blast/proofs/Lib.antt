pub mod Fitting
pub mod Noding
pub mod Knowing
pub mod Walking
pub mod Choosing
