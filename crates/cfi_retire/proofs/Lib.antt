mod JumpLemmas
mod LiveListLemmas
mod UserLemmas
