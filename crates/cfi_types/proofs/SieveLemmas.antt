-- Equal nodes are sifted by one key.
use Rattle.std.proofs.Common.{◌≡◌, ◌∙◌, ℕ, ◌<◌, cond, eqb, List, [], ◌∷◌, length, get_or, ap}
use Rattle.cfi_type_table.specs.Node.{Node, node_of}
use Rattle.cfi_types.specs.Same.{Equal}
use Rattle.cfi_types.specs.inner.Splitting.{IsClosed}
use Rattle.cfi_types.specs.inner.Digest.{digest_of, sifted_by, sieve_of}
use Rattle.cfi_types.specs.inner.Keeping.{KeepEqual}
use Rattle.cfi_types.proofs.Steps.{equal_signature}

pub one_sieve : (nodes : List Node) (classes sizes : List ℕ) (a b : ℕ) → IsClosed nodes → KeepEqual nodes classes
    → a < length nodes → b < length nodes → Equal nodes a nodes b
    → sieve_of nodes classes sizes a ≡ sieve_of nodes classes sizes b
one_sieve nodes classes sizes a b closed keep la lb h =
    let class = get_or classes b 0 in
    ap (λ k. sifted_by classes k (get_or sizes k 0) (node_of nodes a)) (keep.kept a b la lb h)
    ∙ ap (λ (s : List ℕ). class ∷ cond (eqb (get_or sizes class 0) 1) 0 (digest_of s) ∷ [])
    (equal_signature nodes classes a b closed keep.kept la lb h)
