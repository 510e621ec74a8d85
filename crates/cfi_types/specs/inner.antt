-- What only private clauses cite.
pub mod Joined
pub mod Leader
pub mod Splitting
pub mod Refining
pub mod Digest
pub mod Depth
pub mod Extending
pub mod Keeping
pub mod Parents
pub mod Hits
pub mod Division
pub mod Whole
