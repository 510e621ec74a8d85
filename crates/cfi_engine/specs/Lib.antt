pub mod Fault
pub mod Guests
pub mod inner
