pub mod Differences
pub mod Fixed
pub mod Pushed
