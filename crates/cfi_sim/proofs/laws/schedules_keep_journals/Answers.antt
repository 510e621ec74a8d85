use Rattle.cfi_sim.proofs.LinesLemmas.{journal}
use Rattle.cfi_sim.proofs.laws.schedules_keep_journals.Goals as goal

pub returns : goal.returns
returns c = journal
