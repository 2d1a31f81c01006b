mod Stocks
pub mod Laid
pub mod Groups
pub mod Boxes
pub mod Fronts
mod Standing
