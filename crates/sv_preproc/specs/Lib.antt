pub mod Directives
pub mod Laws
pub mod Reached
pub mod Roles
pub mod Seen
