pub mod Tables
pub mod Wanted
