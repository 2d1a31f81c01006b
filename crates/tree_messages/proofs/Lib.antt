mod Becoming
mod Asking
pub mod Inputs
