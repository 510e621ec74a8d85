mod StepLemmas
pub mod ExampleLemmas
pub mod ReachLemmas
pub mod NumbersLemmas
pub mod LinesLemmas
pub mod EndLemmas
pub mod FoundLemmas
pub mod GoLemmas
pub mod ReleaseLemmas
pub mod BeginLemmas
pub mod LoadLemmas
pub mod UpdateLemmas
pub mod OnceLemmas
pub mod RepeatLemmas
pub mod OpeningLemmas
pub mod FollowLemmas
pub mod PartsLemmas
pub mod SimulateLemmas
pub mod FormLemmas
pub mod ImageOnce
pub mod HappensOnce
pub mod LinesOnce
pub mod SimOnce
pub mod journal
pub mod guests
mod TraceLemmas
mod TraceUnique
