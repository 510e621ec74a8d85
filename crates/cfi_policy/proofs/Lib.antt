mod BookLemmas
mod CodeLemmas
pub mod EdgeLemmas
mod GroupLemmas
mod IdleLemmas
mod KeptOnceLemmas
mod MemberLemmas
mod OneLemmas
mod OrderLemmas
mod SpansLemmas
mod HandMadeLemmas
mod WithinLemmas
