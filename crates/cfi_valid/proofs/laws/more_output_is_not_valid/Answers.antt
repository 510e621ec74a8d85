use Rattle.cfi_valid.proofs.example.ExampleReplay.{no_more}
use Rattle.cfi_valid.proofs.laws.more_output_is_not_valid.Goals as goal

pub returns : goal.returns
returns c = no_more
