pub mod Layers
pub mod Filling
