-- What only private clauses cite.
pub mod Draft
pub mod Form
pub mod Kept
pub mod Next
