pub mod Parts
pub mod Fields
pub mod Nodes
pub mod Tables
pub mod Loops
