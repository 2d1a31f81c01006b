pub mod Adds
pub mod Calls
pub mod Whole
