pub mod Sorting
pub mod Shorter
pub mod Reading
pub mod LowerCase
pub mod Whole
