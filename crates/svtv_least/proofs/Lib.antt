pub mod Same
pub mod Setting
pub mod Taking
pub mod Phases
pub mod Planning
pub mod Fitting
