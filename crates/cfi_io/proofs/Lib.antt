mod HeldLemmas
mod ToldLemmas
