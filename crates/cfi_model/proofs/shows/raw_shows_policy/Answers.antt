use Rattle.cfi_model.proofs.ShownLemmas.{raw_shows}
use Rattle.cfi_model.proofs.StuckLemmas.{raw_has_steps}
use Rattle.cfi_model.proofs.shows.raw_shows_policy.Goals as goal

pub returns-clause-shows : goal.returns-clause-shows
returns-clause-shows c = raw_shows

pub returns-clause-steps : goal.returns-clause-steps
returns-clause-steps c = raw_has_steps
