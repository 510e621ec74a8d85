use Rattle.cfi_loader.proofs.HistoryLemmas.{goes_on}
use Rattle.cfi_loader.proofs.laws.courses_go_on.Goals as goal

pub returns : goal.returns
returns c = goes_on
