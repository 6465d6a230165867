pub mod Sums
pub mod Records
pub mod Pieces
