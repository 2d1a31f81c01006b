pub mod Processing
pub mod InCycle
pub mod Calls
pub mod Ordered
pub mod OrderedRun
pub mod Holds
