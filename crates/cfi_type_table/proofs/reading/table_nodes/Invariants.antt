use Rattle.cfi_type_table.proofs.Loops.{NodesSoFar}
use Rattle.cfi_type_table.proofs.reading.table_nodes.Given as goal

abbrev pub invariant-loop-number : goal.invariant-loop-number
invariant-loop-number l = NodesSoFar l.count l.number l.nodes.items l.rest l.bytes
