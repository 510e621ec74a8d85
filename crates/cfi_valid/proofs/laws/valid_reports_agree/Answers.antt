use Rattle.cfi_valid.proofs.ValidLemmas.{reports_same}
use Rattle.cfi_valid.proofs.laws.valid_reports_agree.Goals as goal

pub returns : goal.returns
returns c = reports_same
