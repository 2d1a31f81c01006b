pub mod Lists
pub mod Looked
mod Counted
pub mod Faced
pub mod Judging
