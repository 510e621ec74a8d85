pub mod Script
pub mod Guests
