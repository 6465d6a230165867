pub mod Entries
pub mod Least
pub mod Merge
pub mod Status
pub mod Inner
