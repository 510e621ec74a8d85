-- What private clauses of this crate cite.
pub mod Drawing
