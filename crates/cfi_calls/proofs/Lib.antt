pub mod HandMadeLemmas
pub mod RunLemmas
