pub mod Designs
pub mod States
pub mod Laws
