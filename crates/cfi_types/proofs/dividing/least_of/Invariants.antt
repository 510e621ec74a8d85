use Rattle.std.proofs.Common.{◌≡◌, ◌∷◌, [], get_or, vec_len, length}
use Rattle.cfi_types.specs.inner.Leader.{first_of}
use Rattle.cfi_types.proofs.LeastLemmas.{LeastSoFar}
use Rattle.cfi_types.proofs.dividing.least_of.Given as goal

abbrev pub invariant-loop-a : goal.invariant-loop-a
invariant-loop-a l = record {
  so_far : LeastSoFar (λ b. get_or l.parts b 0 ∷ []) l.a (first_of l.firsts) l.least.items;
  len : vec_len l.firsts.alone ≡ length l.parts;
}
