pub mod ClassLemmas
pub mod LoadedLemmas
pub mod LiveLemmas
pub mod SetLemmas
