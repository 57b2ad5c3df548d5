pub mod Codes
pub mod Parsers
pub mod Refusals
pub mod Sorts
pub mod Tests
