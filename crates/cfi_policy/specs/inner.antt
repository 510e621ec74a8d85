-- What only private clauses cite.
pub mod ByClass
pub mod Idle
pub mod Kept
