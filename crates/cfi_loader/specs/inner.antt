pub mod Books
pub mod Opening
pub mod Loads
pub mod Retirements
