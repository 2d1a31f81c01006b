pub mod Entries
pub mod Gathered
pub mod Read
pub mod Whole
