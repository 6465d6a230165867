-- What serves the contracts of private functions, and invariants: nothing here has to be believed.
pub mod Threads
pub mod Dealt
pub mod Working
