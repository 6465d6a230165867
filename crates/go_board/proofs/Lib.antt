pub mod Places
pub mod Sets
pub mod Paths
pub mod Captures
pub mod Stones
pub mod Visits
mod Worked
pub mod Floods
pub mod Removals
pub mod Capturing
pub mod Agreement
pub mod Moves
