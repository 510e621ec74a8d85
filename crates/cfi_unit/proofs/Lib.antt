pub mod InsnLemmas
pub mod SlotLemmas
pub mod UnitLemmas
pub mod CodeLemmas
pub mod SpotLemmas
pub mod ReadLemmas
pub mod StopLemmas
