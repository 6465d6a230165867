pub mod Harvested
pub mod FewMoves
pub mod ByWords
mod Dealt
mod Joined
mod Working
