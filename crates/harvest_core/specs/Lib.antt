pub mod Working
pub mod Harvest
pub mod Inner
