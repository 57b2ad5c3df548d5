pub mod Found
pub mod OnTrees
mod DesignRows
