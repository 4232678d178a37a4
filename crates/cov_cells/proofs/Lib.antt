pub mod Sums
pub mod Following
pub mod Turning
pub mod Counting
pub mod Seating
pub mod Ending
