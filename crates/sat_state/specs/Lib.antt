pub mod Lists
pub mod Trail
pub mod Watch
pub mod Visited
pub mod Queue
pub mod Store
pub mod Narrow
