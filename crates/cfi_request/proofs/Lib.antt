pub mod OperandLemmas
pub mod WalkLemmas
pub mod TakesLemmas
pub mod SplitLemmas
pub mod CommandLemmas
pub mod OutsideLemmas
pub mod ReadingLemmas
