pub mod BitFlags
pub mod Emptied
pub mod Flagged
pub mod Joined
pub mod TakenWords
pub mod ThoseFrom
pub mod WordBits
