pub mod Parts
pub mod Functions
