pub mod Stacks
pub mod Walking
pub mod Pushing
pub mod Ordering
pub mod Standing
