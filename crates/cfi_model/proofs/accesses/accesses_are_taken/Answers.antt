use Rattle.std.proofs.Common.{refl, inr}
use Rattle.cfi_model.proofs.KeptLemmas.{tries_fair}
use Rattle.cfi_model.proofs.TakeLemmas.{accesses_fit, accesses_join}
use Rattle.cfi_model.proofs.accesses.accesses_are_taken.Goals as goal

pub returns-clause-fits : goal.returns-clause-fits
returns-clause-fits c = accesses_fit

pub returns-clause-tries : goal.returns-clause-tries
returns-clause-tries c = tries_fair

pub returns-clause-joins : goal.returns-clause-joins
returns-clause-joins c = accesses_join

pub returns-clause-some : goal.returns-clause-some
returns-clause-some c = λ image number entry fills within. (inr (refl, within, refl, refl), tt, tt)
