pub mod Events
pub mod Shown
pub mod LineByLine
pub mod Examples
