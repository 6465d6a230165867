pub mod Causes
pub mod Flaws
pub mod Fronts
pub mod Inner
pub mod Names
pub mod Shown
pub mod Sources
