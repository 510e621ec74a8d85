use Rattle.cfi_sim.proofs.TraceUnique.{one, follow}
use Rattle.cfi_sim.proofs.trace_laws.traces_are_one.Goals as goal

pub returns-clause-one : goal.returns-clause-one
returns-clause-one c = one

pub returns-clause-follow : goal.returns-clause-follow
returns-clause-follow c = follow
