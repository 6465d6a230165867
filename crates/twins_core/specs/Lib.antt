pub mod Codes
pub mod Twins
pub mod Runs
pub mod Inner
