pub mod Graph
pub mod Conjunction
pub mod Sums
pub mod Table
pub mod Cone
