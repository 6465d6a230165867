pub mod Output
pub mod Boards
pub mod Runs
pub mod Status
pub mod Finds
pub mod Joins
pub mod Patterns
pub mod Inner
