pub mod Formula
pub mod Clauses
pub mod State
pub mod Gates
