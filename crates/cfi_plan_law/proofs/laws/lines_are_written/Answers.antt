use Rattle.cfi_plan_law.proofs.AloneLemmas.{line-says}
use Rattle.cfi_plan_law.proofs.BackLemmas.{line-back}
use Rattle.cfi_plan_law.proofs.laws.lines_are_written.Goals as goal

pub returns-clause-back : goal.returns-clause-back
returns-clause-back c = line-back

pub returns-clause-alone : goal.returns-clause-alone
returns-clause-alone c = line-says
