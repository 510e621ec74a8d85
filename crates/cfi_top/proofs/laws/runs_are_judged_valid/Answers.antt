use Rattle.cfi_top.proofs.ReportLemmas.{run_judged}
use Rattle.cfi_top.proofs.laws.runs_are_judged_valid.Goals as goal

pub returns : goal.returns
returns c = run_judged
