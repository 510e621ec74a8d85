-- What only private clauses cite.
pub mod Cursor
pub mod Follows
pub mod Ended
