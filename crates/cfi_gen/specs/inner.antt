-- What private clauses of this crate cite.
pub mod Fault
pub mod Series
