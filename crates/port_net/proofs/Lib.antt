pub mod Stood
pub mod Arrived
pub mod Standing
pub mod Called
pub mod Coming
pub mod Rowed
pub mod Final
