pub mod PushLemmas
pub mod ApartLemmas
pub mod StepsLemmas
pub mod EndLemmas
pub mod RanLemmas
pub mod MadeLemmas
pub mod ReadLemmas
