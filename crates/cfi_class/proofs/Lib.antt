mod EdgeLemmas
mod ExtendedLemmas
mod ForestLemmas
mod JoinLemmas
pub mod JoinedLemmas
mod KeptForestLemmas
mod KeptLemmas
mod KeptOnceLemmas
mod LabelledLemmas
mod LabelsLemmas
pub mod LinkedLemmas
mod NodesLemmas
mod NumberingLemmas
mod PushedLemmas
mod RenewedLemmas
mod RenumberingLemmas
mod RootLemmas
mod SweepLemmas
mod TakenLemmas
