pub mod Colons
pub mod Digits
pub mod Collected
mod Worked
pub mod Rectangles
pub mod Few
mod OneResult
pub mod RecordFaults
pub mod OnBoard
