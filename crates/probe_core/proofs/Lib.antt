pub mod Placings
mod Winning
mod Growing
pub mod Telling
mod Taking
mod Lending
mod Callers
mod Folding
mod Happening
mod Stamps
pub mod Soundness
mod Tracking
mod Running
pub mod Histories
mod Beginning
mod Worked
mod Schedules
