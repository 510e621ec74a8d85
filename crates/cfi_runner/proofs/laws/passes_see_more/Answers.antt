use Rattle.cfi_runner.proofs.OpenedLemmas.{all_sight, all_start, noted_sees, quiet_sees}
use Rattle.cfi_runner.proofs.SeenLemmas.{seen_history, sees_trans}
use Rattle.cfi_runner.proofs.laws.passes_see_more.Goals as goal

pub returns-clause-history : goal.returns-clause-history
returns-clause-history c = seen_history

pub returns-clause-admitted : goal.returns-clause-admitted
returns-clause-admitted c = λ k keeping accesses is.
    (all_sight k keeping accesses is, λ entry starts. all_start k keeping accesses is entry starts)

pub returns-clause-noted : goal.returns-clause-noted
returns-clause-noted c = noted_sees

pub returns-clause-quiet : goal.returns-clause-quiet
returns-clause-quiet c = quiet_sees

pub returns-clause-goes_on : goal.returns-clause-goes_on
returns-clause-goes_on c = sees_trans
