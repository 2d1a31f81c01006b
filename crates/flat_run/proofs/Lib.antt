pub mod Instants
pub mod Costs
pub mod Ran
pub mod Turning
pub mod Begun
pub mod Starts
pub mod OfRoutes
pub mod Putting
