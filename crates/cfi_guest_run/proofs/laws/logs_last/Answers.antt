use Rattle.cfi_guest_run.proofs.ToldLemmas.{logged_later}
use Rattle.cfi_guest_run.proofs.laws.logs_last.Goals as goal

pub returns : goal.returns
returns c = logged_later
