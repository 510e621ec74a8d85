pub mod Decimal
pub mod Hex
pub mod Lines
pub mod Words
pub mod Names
