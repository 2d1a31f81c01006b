pub mod Appended
pub mod Compared
pub mod GroupSizes
pub mod Heads
pub mod Taken
