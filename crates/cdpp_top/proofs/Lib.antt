pub mod Causes
pub mod Models
pub mod Words
pub mod Reading
pub mod Joined
pub mod Sizes
pub mod Boxes
