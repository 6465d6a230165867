-- What serves the contracts of private functions: nothing here has to be believed.
pub mod Grown
pub mod Looks
