pub mod Laws
pub mod Modules
pub mod TwoStates
pub mod Wholes
