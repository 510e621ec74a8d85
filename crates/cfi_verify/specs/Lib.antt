pub mod Spots
pub mod Functions
pub mod Target
pub mod Branches
pub mod Fault
pub mod Example
pub mod inner
