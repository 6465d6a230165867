pub mod History
pub mod Places
pub mod Stakes
pub mod Passes
pub mod Rule
pub mod Telling
pub mod Batches
pub mod Inner
