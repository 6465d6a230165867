-- What serves the contracts of private functions, and invariants: nothing here has to be believed.
pub mod Finding
pub mod Watching
pub mod Reading
pub mod Parts
pub mod WordLists
pub mod Runs
