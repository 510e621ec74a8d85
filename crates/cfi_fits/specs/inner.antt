-- What only private clauses cite.
pub mod Prefix
pub mod Signatures
pub mod Nearest
