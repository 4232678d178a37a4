pub mod Spellings
pub mod Counters
pub mod Tables
pub mod Joining
pub mod Covering
pub mod Places
pub mod Local
pub mod Grammar
