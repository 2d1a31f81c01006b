pub mod Heap
pub mod Replay
pub mod Sorted
pub mod Taking
pub mod Waiting
pub mod Lists
