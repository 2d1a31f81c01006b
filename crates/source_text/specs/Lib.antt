pub mod Tuples
pub mod Kinds
pub mod Lines
pub mod Examples
