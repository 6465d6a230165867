-- What serves the contracts of private functions, and invariants: nothing here has to be believed.
pub mod EmptyPoints
pub mod Flips
pub mod Images
pub mod Keeping
pub mod KeptLists
pub mod Table
pub mod Word
