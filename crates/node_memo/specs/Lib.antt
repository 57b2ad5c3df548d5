pub mod Lists
pub mod Memos
pub mod Walks
