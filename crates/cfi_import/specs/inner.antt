-- What only private clauses cite.
pub mod Found
pub mod Room
pub mod Capped
pub mod Made
