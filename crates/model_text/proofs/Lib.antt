mod Basics
mod Phases
pub mod Keys
mod Values
mod GroupKeys
mod Groups
mod GroupSound
mod Walked
pub mod Parts
mod Bare
mod Whole
mod Once
pub mod Limits
mod LifeText
