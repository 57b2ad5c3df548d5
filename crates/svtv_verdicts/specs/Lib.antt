pub mod Benches
pub mod Questions
pub mod Verdicts
pub mod Laws
pub mod Certs
