use Rattle.cfi_top.proofs.ReportLemmas.{valid_judged}
use Rattle.cfi_top.proofs.laws.valid_reports_are_judged_valid.Goals as goal

pub returns : goal.returns
returns c = valid_judged
