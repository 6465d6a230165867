pub mod Refused
pub mod Games
pub mod Inner
