pub mod Residues
pub mod Kinds
pub mod Integers
pub mod Bits
pub mod Operations
pub mod Constants
pub mod Texts
