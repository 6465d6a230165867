pub mod Spelling
pub mod Point
pub mod Setup
pub mod Actions
pub mod Record
pub mod Adding
pub mod Replay
pub mod Inner
