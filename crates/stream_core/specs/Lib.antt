pub mod Faults
pub mod Progress
pub mod Rows
pub mod Streams
pub mod Inner
