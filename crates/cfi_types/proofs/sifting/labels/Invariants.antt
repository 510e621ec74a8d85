use Rattle.cfi_type_table.specs.Node.{node_of}
use Rattle.cfi_types.specs.inner.Leader.{first_of}
use Rattle.cfi_types.specs.inner.Keeping.{label_of}
use Rattle.cfi_types.proofs.LeastLemmas.{LeastSoFar}
use Rattle.cfi_types.proofs.sifting.labels.Given as goal

abbrev pub invariant-loop-a : goal.invariant-loop-a
invariant-loop-a l = LeastSoFar (λ b. label_of (node_of l.nodes b)) l.a (first_of l.firsts) l.classes.items
