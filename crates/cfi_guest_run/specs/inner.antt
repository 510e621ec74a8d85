-- What only private clauses cite.
pub mod Lines
pub mod Ending
