pub mod Ended
pub mod Sources
pub mod Steps
pub mod Texts
