pub mod Like
pub mod Starts
