pub mod Indexing
pub mod Under
