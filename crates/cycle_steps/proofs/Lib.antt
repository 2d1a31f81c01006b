mod Gathered
mod Marked
mod Picked
mod Runs
mod Growth
mod Reached
mod Bags
mod Steps
mod Halves
mod Rising
pub mod OneMore
pub mod Stops
