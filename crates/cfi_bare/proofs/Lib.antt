pub mod LoadedLemmas
pub mod SoundLemmas
