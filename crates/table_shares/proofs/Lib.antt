mod Common
mod Places
mod Found
pub mod Raised
pub mod Entered
mod Made
pub mod Added
mod Covered
mod Strangers
mod Stood
mod Totalled
pub mod Ordered
mod Visits
pub mod Confirmed
mod SoughtRows
pub mod Standings
