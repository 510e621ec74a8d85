use Rattle.cfi_ledger.proofs.PlanLemmas.{plan_starts, bare_starts}
use Rattle.cfi_loader.proofs.laws.plans_can_start.Goals as goal

pub returns-clause-plan : goal.returns-clause-plan
returns-clause-plan c = plan_starts

pub returns-clause-bare : goal.returns-clause-bare
returns-clause-bare c = bare_starts
