-- What only private clauses cite.
pub mod Forest
pub mod Linked
pub mod Nodes
pub mod Numbering
pub mod Renumbering
pub mod Taken
