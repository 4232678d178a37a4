pub mod Outline
pub mod Owners
pub mod Outlining
pub mod Units
pub mod Layers
pub mod Placement
pub mod Laws
pub mod Counted
