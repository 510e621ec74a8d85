use Rattle.cfi_valid.proofs.EntryGrowth.{log_grows}
use Rattle.cfi_valid.proofs.PickGrowth.{picks_grow}
use Rattle.cfi_valid.proofs.laws.logs_grow.Goals as goal

pub returns-clause-entry : goal.returns-clause-entry
returns-clause-entry c = log_grows

pub returns-clause-pick : goal.returns-clause-pick
returns-clause-pick c = picks_grow
