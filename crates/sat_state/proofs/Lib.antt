pub mod Trails
pub mod RowSets
pub mod Visits
pub mod Queues
pub mod Places
pub mod Stores
