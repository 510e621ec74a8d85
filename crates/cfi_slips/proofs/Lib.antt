pub mod LineLemmas
mod KeptLemmas
mod StepLemmas
