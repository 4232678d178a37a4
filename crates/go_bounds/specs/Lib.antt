pub mod Known
pub mod Trees
pub mod Pieces
pub mod Laws
pub mod PackageBodies
pub mod Outlines
pub mod Modules
