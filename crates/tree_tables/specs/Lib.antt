pub mod Stations
pub mod Children
pub mod Begins
pub mod Incoming
pub mod Walk
pub mod Wiring
