pub mod Indexes
pub mod Placing
