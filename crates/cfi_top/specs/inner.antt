-- What private clauses of this crate cite.
pub mod Generating
pub mod Judging
pub mod Running
pub mod Simulating
pub mod Tracing
pub mod Working
