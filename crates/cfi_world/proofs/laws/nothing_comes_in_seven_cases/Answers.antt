use Rattle.cfi_world.proofs.OutcomeLemmas.{nothing_same, nothing_only}
use Rattle.cfi_world.proofs.laws.nothing_comes_in_seven_cases.Goals as goal

pub returns-clause-same : goal.returns-clause-same
returns-clause-same c = nothing_same

pub returns-clause-only : goal.returns-clause-only
returns-clause-only c = nothing_only
