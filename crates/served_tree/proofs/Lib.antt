pub mod Times
pub mod Works
pub mod Counting
pub mod Stepping
pub mod Serving
pub mod Through
pub mod Lists
mod Ports
pub mod Placing
pub mod Parting
pub mod Finishing
pub mod Whole
mod Sound
mod Seeds
mod Runs
mod Rows
