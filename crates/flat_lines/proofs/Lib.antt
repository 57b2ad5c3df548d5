pub mod Names
pub mod ShapeForms
pub mod Targets
pub mod WholeLines
