pub mod Orders
pub mod Sums
mod Accounts
mod Rules
pub mod Turns
