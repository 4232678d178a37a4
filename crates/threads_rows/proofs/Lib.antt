pub mod Countable
pub mod InRange
