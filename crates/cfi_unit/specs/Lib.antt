pub mod Unit
pub mod Code
pub mod Spots
pub mod Free
