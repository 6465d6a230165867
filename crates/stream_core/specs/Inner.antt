-- What serves the contracts of private functions, and invariants: nothing here has to be believed.
pub mod Blocks
pub mod Counting
pub mod Steps
pub mod Taken
