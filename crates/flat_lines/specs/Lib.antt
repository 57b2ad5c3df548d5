pub mod Shapes
pub mod Items
pub mod Fits
