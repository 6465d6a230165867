pub mod Commands
pub mod Files
pub mod Stamps
pub mod Words
