pub mod IdLemmas
pub mod WordLemmas
pub mod TableLemmas
pub mod RankLemmas
