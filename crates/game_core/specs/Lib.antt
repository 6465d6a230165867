pub mod Collection
pub mod Reports
pub mod Games
pub mod Faults
pub mod Reading
pub mod Inner
