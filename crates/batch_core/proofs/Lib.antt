pub mod Squares
pub mod Shifted
pub mod Records
pub mod Parting
pub mod Joined
