pub mod Cuts
pub mod FirstWords
pub mod TupleParts
mod Casts
