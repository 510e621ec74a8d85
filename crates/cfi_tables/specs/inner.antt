pub mod Steps
pub mod Stamps
pub mod Opening
pub mod Seats
pub mod Stores
pub mod Keepers
