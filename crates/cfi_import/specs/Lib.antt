pub mod Limit
pub mod Imports
pub mod Start
pub mod Stubs
pub mod Stubbed
pub mod inner
