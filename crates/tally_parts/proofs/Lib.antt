pub mod Small
pub mod Good
pub mod Filled
pub mod Counted
pub mod Stored
pub mod Kept
pub mod Joined
pub mod Fronts
