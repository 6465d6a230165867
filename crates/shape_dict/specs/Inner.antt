-- What serves the contracts of private functions, and invariants: nothing here has to be believed.
pub mod FirstGames
pub mod Merging
pub mod Parsing
pub mod Reading
pub mod Parts
pub mod Sorting
