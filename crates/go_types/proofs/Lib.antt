pub mod Literals
pub mod Layers
pub mod Exported
pub mod Depths
