pub mod Entries
pub mod Sections
pub mod Reading
pub mod Reader
pub mod Examples
pub mod Laws
pub mod InCode
