pub mod Ints
pub mod WideBits
pub mod Wraps
pub mod Shifts
pub mod Exact
pub mod Meaning
