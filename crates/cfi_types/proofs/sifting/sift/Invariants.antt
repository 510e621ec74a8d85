use Rattle.cfi_types.specs.inner.Leader.{first_of}
use Rattle.cfi_types.specs.inner.Digest.{sieve_of}
use Rattle.cfi_types.proofs.LeastLemmas.{LeastSoFar}
use Rattle.cfi_types.proofs.sifting.sift.Given as goal

abbrev pub invariant-loop-a : goal.invariant-loop-a
invariant-loop-a l = LeastSoFar (sieve_of l.nodes l.classes l.sizes.items) l.a (first_of l.firsts) l.parts.items
