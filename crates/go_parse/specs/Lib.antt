pub mod Answers
pub mod Openings
pub mod Parts
pub mod Placed
