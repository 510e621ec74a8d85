use Rattle.cfi_judge.proofs.RefutesLemmas.{on_fault, on_ok}
use Rattle.cfi_judge.proofs.reached.Reached.must_refuse.Goals as goal

pub returns-clause-ok : goal.returns-clause-ok
returns-clause-ok c = on_ok c.must.result c.is_refusal.ensures.0 c.must.ensures.ok

pub returns-clause-fault : goal.returns-clause-fault
returns-clause-fault c = on_fault c.must.result c.is_refusal.ensures.1 c.must.ensures.fault
