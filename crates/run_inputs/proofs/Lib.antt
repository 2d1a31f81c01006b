pub mod Going
pub mod Causing
pub mod Stops
pub mod Tried
pub mod NamedFiles
pub mod EventFiles
pub mod Told
