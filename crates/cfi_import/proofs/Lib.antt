pub mod LimitLemmas
pub mod StartLemmas
pub mod FoundLemmas
pub mod SizeLemmas
pub mod MadeLemmas
pub mod PartLemmas
