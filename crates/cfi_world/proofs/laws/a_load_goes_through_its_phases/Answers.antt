use Rattle.cfi_world.proofs.RetryLemmas.{load_goes, load_rises}
use Rattle.cfi_world.proofs.laws.a_load_goes_through_its_phases.Goals as goal

pub returns-clause-phases : goal.returns-clause-phases
returns-clause-phases c = load_goes

pub returns-clause-forces : goal.returns-clause-forces
returns-clause-forces c = load_rises
