use Rattle.std.proofs.Common.{arith}
use Rattle.cfi_word.specs.declared.limits.TheConstants.{MIN_VERSIONS}
use Rattle.cfi_world.proofs.RetryLemmas.{call_can, refresh_may, refresh_turns, refresh_ends}
use Rattle.cfi_world.proofs.laws.a_refresh_waits_for_a_quiescent_point.Goals as goal

pub returns-clause-turns : goal.returns-clause-turns
returns-clause-turns c = refresh_turns

pub returns-clause-ends : goal.returns-clause-ends
returns-clause-ends c = refresh_ends

pub returns-clause-opens : goal.returns-clause-opens
returns-clause-opens c = call_can MIN_VERSIONS (omega arith) (omega arith)

pub returns-clause-may : goal.returns-clause-may
returns-clause-may c = refresh_may
