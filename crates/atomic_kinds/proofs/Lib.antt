pub mod Lines
pub mod PairLemmas
pub mod Rising
pub mod Steps
