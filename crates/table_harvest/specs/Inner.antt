-- What serves the contracts of private functions, and invariants: nothing here has to be believed.
pub mod Threads
pub mod Harvest
pub mod Parted
pub mod Reading
pub mod Working
