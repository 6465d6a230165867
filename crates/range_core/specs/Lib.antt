pub mod Entries
pub mod Totals
pub mod Ranges
pub mod Places
pub mod Rows
pub mod Words
pub mod Rising
pub mod Inner
