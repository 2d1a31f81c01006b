pub mod Drawing
pub mod Pictures
pub mod Instants
pub mod Turns
pub mod Knowing
pub mod RowNumbers
