use Rattle.std.proofs.lemmas.Bool.{leb-true}
use Rattle.cfi_gen.proofs.PlanLemmas.{all_read}
use Rattle.cfi_gen.proofs.plan_read.plans_are_read.Goals as goal

pub returns-clause-is : goal.returns-clause-is
returns-clause-is c = λ count least most. (all_read count least most).is

pub returns-clause-short : goal.returns-clause-short
returns-clause-short c = λ count least most. leb-true _ _ (all_read count least most).short

pub returns-clause-count : goal.returns-clause-count
returns-clause-count c = λ count least most. (all_read count least most).many
