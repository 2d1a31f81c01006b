pub mod Stacks
mod Depths
mod Beforehand
mod Alone
mod Deepest
pub mod Puts
pub mod FormTrees
pub mod WholeNumbers
mod OneValue
