pub mod Faults
pub mod Tree
pub mod Memory
pub mod Mode
pub mod Limits
pub mod Whole
