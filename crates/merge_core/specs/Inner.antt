-- What serves the contracts of private functions, and invariants: nothing here has to be believed.
pub mod Trees
pub mod Folds
pub mod Leaves
pub mod Counting
pub mod Judging
pub mod Writing
pub mod Ranges
pub mod Tallies
pub mod Blocks
pub mod Surveys
pub mod Printing
