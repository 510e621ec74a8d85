pub mod Names
pub mod Value
pub mod Relocated
pub mod Slots
pub mod Functions
pub mod Placed
pub mod inner
