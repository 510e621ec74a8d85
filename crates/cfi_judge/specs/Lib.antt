pub mod Guests
pub mod Reached
pub mod Journal
pub mod Modules
pub mod Steps
pub mod Judge
pub mod inner
