pub mod Chain
pub mod Ids
pub mod Word
pub mod Table
pub mod Rank
pub mod Edge
