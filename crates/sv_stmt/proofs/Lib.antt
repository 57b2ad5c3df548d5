pub mod Having
pub mod Contributing
pub mod Naming
pub mod Rooted
pub mod Placing
pub mod Judging
pub mod Passed
