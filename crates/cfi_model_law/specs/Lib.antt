pub mod Moments
pub mod Force
pub mod Ready
pub mod Window
