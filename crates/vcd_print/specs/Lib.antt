pub mod Printed
pub mod Dumps
