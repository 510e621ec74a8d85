pub mod Fits
pub mod Widening
pub mod inner
