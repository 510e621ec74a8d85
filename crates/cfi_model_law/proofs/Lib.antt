pub mod MomentLemmas
pub mod ForceLemmas
pub mod RunLemmas
pub mod TryLemmas
pub mod CheckTryLemmas
pub mod WindowLemmas
pub mod WalkLemmas
pub mod InForceLemmas
