use Rattle.cfi_runner.proofs.OpenedLemmas.{opened_can, some_served}
use Rattle.cfi_runner.proofs.laws.some_guest_can_run.Goals as goal

pub returns-clause-opened : goal.returns-clause-opened
returns-clause-opened c = opened_can

pub returns-clause-served : goal.returns-clause-served
returns-clause-served c = some_served
