pub mod Ops
pub mod Typed
