pub mod Ranking
pub mod Chosen
pub mod Joined
pub mod Bounding
pub mod Greatest
pub mod Placing
