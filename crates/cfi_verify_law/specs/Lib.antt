pub mod Parts
pub mod Example
