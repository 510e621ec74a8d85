pub mod Count
pub mod Files
pub mod Held
pub mod Told
pub mod Seen
pub mod Undone
