pub mod Joined
pub mod Notes
pub mod Mail
pub mod Puts
pub mod Tabled
pub mod Recorded
