use Rattle.cfi_gen.specs.Source.{node_lines}
use Rattle.cfi_gen.proofs.LineLemmas.{three_more}
use Rattle.cfi_gen.proofs.source.put_nodes.Goals as goal

-- its lines, one behind another
pub returns : goal.returns
unfolding node_lines
returns c = three_more _ _ _ _ _ _ _ c.in_ok-put_line.ensures c.in_ok-put_line-2.ensures c.in_ok-put_line-3.ensures
