pub mod Bases
pub mod Fronts
pub mod Operators
pub mod Pieces
pub mod Scan
pub mod Verdicts
