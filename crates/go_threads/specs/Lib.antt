pub mod Runnable
pub mod Turns
pub mod Seats
pub mod Backs
pub mod Starts
pub mod Outcomes
