pub mod FieldLemmas
pub mod InsnOfLemmas
pub mod IsWordLemmas
