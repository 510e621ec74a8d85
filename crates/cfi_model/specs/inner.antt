-- What only private clauses cite.
pub mod Paged
pub mod Pairs
