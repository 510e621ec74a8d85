pub mod NumberLemmas
pub mod AllLemmas
pub mod OperandLemmas
pub mod TableLemmas
pub mod ShortLemmas
