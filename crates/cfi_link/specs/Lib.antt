pub mod Gap
pub mod Joined
pub mod Chosen
pub mod Applied
pub mod Fault
pub mod Linked
pub mod inner
