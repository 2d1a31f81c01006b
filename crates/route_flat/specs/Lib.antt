pub mod Nets
pub mod Counts
pub mod Lists
pub mod Ways
pub mod BySource
pub mod TreePaths
pub mod Ports
pub mod TargetExamples
