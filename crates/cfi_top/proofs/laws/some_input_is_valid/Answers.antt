use Rattle.cfi_top.proofs.ValidLemmas.{valid}
use Rattle.cfi_top.proofs.laws.some_input_is_valid.Goals as goal

pub returns : goal.returns
returns c = (_, _, valid)
