mod Common
pub mod Calls
mod Numbered
pub mod Added
pub mod Few
mod WordRows
mod Taken
mod OfRows
pub mod NumberedGames
pub mod Gathered
