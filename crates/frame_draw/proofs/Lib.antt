pub mod Texts
pub mod InstantLemmas
pub mod TurnLemmas
pub mod Numbers
