pub mod Unread
pub mod Read
