pub mod InTable
pub mod Working
pub mod Harvest
pub mod Inner
