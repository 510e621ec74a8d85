pub mod NameLemmas
pub mod FunctionLemmas
pub mod WantedLemmas
pub mod RelocatedLemmas
pub mod SlotLemmas
pub mod PlacingLemmas
pub mod ExampleLemmas
