pub mod Rows
pub mod Flow
pub mod Fans
pub mod Order
pub mod Fresh
pub mod Kept
pub mod inner
