pub mod formers
pub mod Kinds
pub mod Linked
pub mod Names
pub mod Cursors
