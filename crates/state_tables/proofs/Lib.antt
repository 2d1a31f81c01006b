pub mod Lines
pub mod Names
pub mod Holds
pub mod Takes
pub mod Entries
pub mod Whole
pub mod Plain
