pub mod Rows
pub mod CountedParts
pub mod OneText
pub mod Parts
pub mod Shuffling
pub mod Standing
pub mod Telling
pub mod Woven
