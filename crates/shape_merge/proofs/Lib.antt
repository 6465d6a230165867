pub mod Asked
pub mod Barred
