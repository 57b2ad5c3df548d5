pub mod Good
pub mod Rising
pub mod Declaring
pub mod Constants
pub mod Stores
pub mod Contributions
pub mod Leasts
pub mod Overriding
pub mod Finding
pub mod OnTrees
pub mod Trees
mod ExprRows
mod FeedRows
mod FormRows
