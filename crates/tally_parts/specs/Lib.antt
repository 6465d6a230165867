pub mod Parts
pub mod Spills
pub mod Status
pub mod Inner
