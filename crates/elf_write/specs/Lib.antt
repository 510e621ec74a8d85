pub mod Words
pub mod Part
pub mod Contents
pub mod File
pub mod Limits
pub mod Whole
pub mod Cut
