pub mod Laws
pub mod Remaining
pub mod Runs
pub mod Schedule
