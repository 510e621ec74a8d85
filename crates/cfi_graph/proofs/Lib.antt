pub mod ShapeLemmas
mod LiveLemmas
mod AddsLemmas
mod PlaceLemmas
mod FactLemmas
pub mod BoundLemmas
mod BranchLemmas
mod TellLemmas
mod ReadLemmas
mod NodeLemmas
mod FirstLemmas
mod ImportLemmas
mod NameLemmas
pub mod CallLemmas
mod WiderLemmas
mod WideningLemmas
mod GoesLemmas
mod ReturnLemmas
mod SoundLemmas
mod DirectLemmas
mod CellLemmas
mod ClassLemmas
mod BelowLemmas
mod FlowLemmas
pub mod EndLemmas
pub mod HandMadeLemmas
pub mod CallRows
pub mod ToldLemmas
mod OneMoreLemmas
mod SiteLemmas
mod OnceLemmas
mod NewEdgeLemmas
mod TellOnLemmas
mod MoreLemmas
mod MetLemmas
mod NamedLemmas
mod GrowWiderLemmas
mod KeptGraphLemmas
mod KeptLinkLemmas
