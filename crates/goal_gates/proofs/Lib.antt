pub mod Tops
pub mod Told
pub mod Sums
pub mod Copies
pub mod Fitting
