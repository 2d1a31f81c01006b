pub mod Layout
pub mod Numbers
pub mod Cells
pub mod Laws
pub mod Store
pub mod Step
pub mod Tallied
pub mod Known
