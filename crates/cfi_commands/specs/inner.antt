-- What private clauses of this crate cite.
pub mod Order
pub mod Words
