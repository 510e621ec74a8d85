pub mod ListingLemmas
pub mod ReadingLemmas
pub mod InstrumentingLemmas
pub mod ModulesLemmas
pub mod LinkingLemmas
pub mod FileLemmas
pub mod TextLemmas
pub mod StubbingLemmas
