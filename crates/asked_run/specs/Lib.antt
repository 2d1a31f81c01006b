pub mod Ways
pub mod Starting
pub mod Leaving
pub mod Stages
