pub mod Saved
pub mod Told
pub mod Example
pub mod LinkedExample
pub mod Source
pub mod SourceExample
