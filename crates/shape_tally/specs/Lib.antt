pub mod Commands
pub mod Sums
pub mod Words
