pub mod Arguments
pub mod Lines
pub mod Values
pub mod Texts
pub mod Patterns
pub mod Inner
