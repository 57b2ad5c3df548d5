pub mod Filed
pub mod WholeDesign
