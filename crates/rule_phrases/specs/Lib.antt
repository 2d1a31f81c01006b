pub mod Terms
pub mod Between
