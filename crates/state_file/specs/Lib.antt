pub mod Lines
pub mod Loads
pub mod Taken
pub mod ReadStates
