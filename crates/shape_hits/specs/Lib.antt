pub mod Commands
pub mod Inputs
pub mod Words
