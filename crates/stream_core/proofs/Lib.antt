pub mod Longest
pub mod Held
pub mod Sums
pub mod Given
pub mod Rowed
