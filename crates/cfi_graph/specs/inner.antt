-- What only private clauses cite.
pub mod Flows
pub mod Told
pub mod Imports
pub mod Marks
pub mod Names
pub mod NewEdges
pub mod More
pub mod KeptGraph
pub mod Addition
