use Rattle.cfi_gen.specs.Source.{calling_lines}
use Rattle.cfi_gen.proofs.LineLemmas.{three_more}
use Rattle.cfi_gen.proofs.main_function.put_calling.Goals as goal

-- its lines, one behind another
pub returns : goal.returns
unfolding calling_lines
returns c = three_more _ _ _ _ _ _ _ c.in_ok-put_number.ensures c.in_ok-put_line.ensures c.in_ok-put_line-2.ensures
