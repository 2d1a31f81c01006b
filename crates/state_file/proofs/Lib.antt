pub mod Lines
mod Putting
mod Reading
mod Whole
mod Sized
mod Fitting
