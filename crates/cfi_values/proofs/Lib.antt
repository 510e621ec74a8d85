pub mod ThenLemmas
