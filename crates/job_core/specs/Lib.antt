pub mod Rising
pub mod Times
pub mod Which
pub mod Rule
pub mod Queue
pub mod Inner
