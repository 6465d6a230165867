pub mod Status
pub mod Codes
pub mod Mover
pub mod Glyphs
pub mod Entries
pub mod Read
pub mod Found
pub mod Around
