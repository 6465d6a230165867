pub mod Histories
mod Pairs
mod Deciding
mod Seating
mod Stepping
mod Searching
mod Parting
mod Owning
mod Staking
mod Portions
mod Joining
mod Marking
pub mod Contents
pub mod Later
pub mod Meetings
pub mod Leasts
pub mod Enters
pub mod Lasting
mod Batching
mod Packing
pub mod Entered
