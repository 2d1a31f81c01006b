pub mod Boxes
pub mod Stages
pub mod Told
