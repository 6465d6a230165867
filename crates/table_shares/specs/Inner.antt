-- What serves the contracts of private functions, and invariants: nothing here has to be believed.
pub mod Adding
pub mod Checking
pub mod Confirming
pub mod Covering
pub mod Entering
pub mod Gathering
pub mod Leasts
pub mod Ledgers
pub mod Making
pub mod Numbers
pub mod Raising
pub mod Rows
pub mod Totals
pub mod Visiting
