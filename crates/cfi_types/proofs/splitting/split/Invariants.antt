use Rattle.cfi_types.specs.inner.Leader.{first_of}
use Rattle.cfi_types.specs.inner.Splitting.{key_of}
use Rattle.cfi_types.proofs.LeastLemmas.{LeastSoFar}
use Rattle.cfi_types.proofs.splitting.split.Given as goal

abbrev pub invariant-loop-a : goal.invariant-loop-a
invariant-loop-a l = LeastSoFar (key_of l.nodes l.classes) l.a (first_of l.firsts) l.next.items
