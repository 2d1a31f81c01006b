pub mod Words
pub mod Left
pub mod LeafLines
pub mod Parts
pub mod Sizes
