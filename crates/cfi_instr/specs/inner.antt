-- What only private clauses cite.
pub mod Words
pub mod Insns
pub mod Flaws
pub mod Items
pub mod Functions
pub mod Ends
pub mod Homes
pub mod Misplaced
pub mod Stray
pub mod Jumps
pub mod Hops
pub mod Arrangement
