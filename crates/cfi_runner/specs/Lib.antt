pub mod Seen
pub mod Picks
pub mod Run
pub mod Shown
pub mod Laws
