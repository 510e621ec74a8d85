pub mod Book
pub mod Code
pub mod Group
pub mod Image
pub mod Spans
pub mod inner
