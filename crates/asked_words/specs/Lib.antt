pub mod Drafts
pub mod Table
pub mod Shown
pub mod Group
pub mod Spaces
