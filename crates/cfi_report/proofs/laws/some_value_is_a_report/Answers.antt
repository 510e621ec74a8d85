use Rattle.cfi_report.proofs.LawLemmas.{empty-IsReport}
use Rattle.cfi_report.proofs.laws.some_value_is_a_report.Goals as goal

pub returns : goal.returns
returns c = (_, empty-IsReport)
