pub mod RegisterLemmas
pub mod MayLemmas
