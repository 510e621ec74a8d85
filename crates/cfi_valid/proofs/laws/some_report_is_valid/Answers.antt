use Rattle.cfi_valid.proofs.example.ExampleReplay.{valid}
use Rattle.cfi_valid.proofs.laws.some_report_is_valid.Goals as goal

pub returns : goal.returns
returns c = valid
