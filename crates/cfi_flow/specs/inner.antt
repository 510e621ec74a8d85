-- What only private clauses cite.
pub mod Reach
pub mod FlowRows
pub mod Spread
pub mod Ways
pub mod Lists
pub mod Others
pub mod Star
pub mod Tagged
pub mod KeptWays
