pub mod Around
pub mod Lent
pub mod PortEnds
pub mod Faces
pub mod Judged
