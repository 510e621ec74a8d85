-- What only private clauses cite.
pub mod Room
pub mod Capped
pub mod Ready
pub mod Kept
pub mod Made
