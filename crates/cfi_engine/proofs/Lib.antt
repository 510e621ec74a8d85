pub mod ScriptLemmas
pub mod SeatLemmas
pub mod StartLemmas
pub mod WaitingLemmas
pub mod CodeLemmas
