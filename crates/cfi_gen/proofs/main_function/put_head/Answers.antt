use Rattle.cfi_gen.specs.Source.{main_head}
use Rattle.cfi_gen.proofs.LineLemmas.{two_more}
use Rattle.cfi_gen.proofs.main_function.put_head.Goals as goal

-- its lines, one behind another
pub returns : goal.returns
unfolding main_head
returns c = two_more _ _ _ _ _ c.in_ok-put_line.ensures c.in_ok-put_line-2.ensures
