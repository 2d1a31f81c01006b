pub mod Settled
pub mod Taken
pub mod Blank
pub mod Boxes
pub mod Laws
pub mod Built
pub mod Ahead
