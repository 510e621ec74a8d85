use Rattle.std.proofs.Common.{arith}
use Rattle.cfi_word.specs.declared.limits.TheConstants.{MAX_VERSIONS}
use Rattle.cfi_world.proofs.RetryLemmas.{call_can, has_try, loads_may, load_tries, load_ends}
use Rattle.cfi_world.proofs.laws.a_check_is_tried_again.Goals as goal

pub returns-clause-tries : goal.returns-clause-tries
returns-clause-tries c = load_tries

pub returns-clause-ends : goal.returns-clause-ends
returns-clause-ends c = load_ends

pub returns-clause-opens : goal.returns-clause-opens
returns-clause-opens c = call_can MAX_VERSIONS (omega arith) (omega arith)

pub returns-clause-may : goal.returns-clause-may
returns-clause-may c = loads_may

pub returns-clause-once : goal.returns-clause-once
returns-clause-once c = has_try
