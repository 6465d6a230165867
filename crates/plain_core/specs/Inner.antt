-- What serves the contracts of private functions, and invariants: nothing here has to be believed.
pub mod Count
pub mod Counter
pub mod Counting
pub mod Entries
pub mod Rows
pub mod Walkers
