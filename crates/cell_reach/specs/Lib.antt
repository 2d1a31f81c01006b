pub mod Neighbourhoods
pub mod NeighbourhoodLaws
pub mod FixedSteps
