pub mod StateFiles
pub mod Groups
pub mod Shown
pub mod Started
pub mod Orders
pub mod Leaving
pub mod Emitted
