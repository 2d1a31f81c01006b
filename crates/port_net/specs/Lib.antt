pub mod Nodes
pub mod Nets
pub mod Shown
pub mod Arriving
pub mod Named
pub mod Outside
pub mod Rows
