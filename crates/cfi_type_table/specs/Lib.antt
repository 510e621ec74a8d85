pub mod Node
pub mod Kind
pub mod Spelling
pub mod Reading
