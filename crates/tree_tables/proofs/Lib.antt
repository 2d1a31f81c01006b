pub mod Listed
pub mod Found
pub mod Rowed
pub mod Put
