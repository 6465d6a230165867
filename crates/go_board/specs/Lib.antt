pub mod Extent
pub mod Point
pub mod Position
pub mod Play
pub mod Board
pub mod Gathered
pub mod Inner
