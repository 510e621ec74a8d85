pub mod Modules
pub mod File
