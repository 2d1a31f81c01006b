pub mod Settings
pub mod Reading
pub mod Holds
pub mod Moves
pub mod Table
