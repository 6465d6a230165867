-- What serves the contracts of private functions, and invariants: nothing here has to be believed.
pub mod Met
pub mod Taking
pub mod Words
