pub mod OneTree
pub mod OneGame
