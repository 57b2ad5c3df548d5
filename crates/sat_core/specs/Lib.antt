pub mod End
pub mod Stop
