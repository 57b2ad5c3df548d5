pub mod Readers
pub mod Sorted
pub mod Tested
pub mod Turns
pub mod Wanted
pub mod Entries
