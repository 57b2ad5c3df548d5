pub mod Forms
pub mod Laws
pub mod Parsed
pub mod Rules
pub mod Skipped
pub mod Words
