use Rattle.cfi_report.proofs.LawLemmas.{same_text}
use Rattle.cfi_report.proofs.laws.one_report.Goals as goal

pub returns : goal.returns
returns c = same_text
