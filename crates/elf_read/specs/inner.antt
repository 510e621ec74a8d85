-- What only private clauses cite.
pub mod Alone
pub mod Targets
