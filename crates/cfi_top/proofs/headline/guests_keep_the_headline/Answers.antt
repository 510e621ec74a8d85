use Rattle.cfi_top.proofs.HeadlineLemmas.{keeps_headline, run_keeps}
use Rattle.cfi_top.proofs.headline.guests_keep_the_headline.Goals as goal

pub returns-clause-guests : goal.returns-clause-guests
returns-clause-guests c = keeps_headline

pub returns-clause-runs : goal.returns-clause-runs
returns-clause-runs c = run_keeps
