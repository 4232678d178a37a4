pub mod OneCounter
pub mod Between
