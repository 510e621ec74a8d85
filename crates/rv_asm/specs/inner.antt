-- What only private clauses cite: the two passes of the code.
pub mod Spot
pub mod Reference
pub mod Survey
pub mod Draft
pub mod Fault
pub mod Passes
pub mod Kept
pub mod Count
