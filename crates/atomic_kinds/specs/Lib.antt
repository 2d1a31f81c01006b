pub mod Parameters
pub mod Counter
pub mod Generator
pub mod Phases
pub mod Queue
pub mod Pairs
pub mod Cpu
