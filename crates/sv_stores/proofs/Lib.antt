pub mod Narrowing
pub mod Stores
pub mod Looking
pub mod Yielding
pub mod Starting
