pub mod Filter
pub mod TextProfile
pub mod Packages
pub mod Shares
pub mod FunctionLines
pub mod Dump
pub mod FunctionSums
