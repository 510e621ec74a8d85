pub mod Part
pub mod Ran
pub mod Laws
