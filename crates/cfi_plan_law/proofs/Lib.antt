pub mod BackLemmas
pub mod AloneLemmas
