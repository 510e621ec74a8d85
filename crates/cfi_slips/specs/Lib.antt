pub mod Lines
pub mod Stubs
pub mod Rule
pub mod inner
