pub mod Joining
pub mod Noting
pub mod Rest
pub mod Recording
pub mod Putting
