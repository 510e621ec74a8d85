pub mod Bare
pub mod Draft
pub mod Kept
pub mod Line
pub mod Plan
pub mod Reading
