pub mod Due
pub mod Ready
pub mod Starting
pub mod Changes
