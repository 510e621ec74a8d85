pub mod Proper
pub mod Example
