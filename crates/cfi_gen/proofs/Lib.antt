mod DrawsLemmas
mod LineLemmas
pub mod SizeLemmas
pub mod PlanLemmas
pub mod MeasureLemmas
pub mod FilesLemmas
