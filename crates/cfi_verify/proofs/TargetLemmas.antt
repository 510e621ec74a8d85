-- Where offsets lead.
use Rattle.std.proofs.Common.{◌≡◌, ◌↔◌, ℕ, ◌+◌, ◌∷◌, ℤ, pos, negsuc, Bool, List, subst, arith}
use Rattle.std.specs.Prelude.{IsTrue}
use Rattle.std.specs.List.{Contains}
use Rattle.std.specs.List.Sorted.{IsPermutation}
use Rattle.std.proofs.lemmas.List.Sorted.{IsPermutation-sym, Contains-permutation}
use Rattle.cfi_aux.specs.declared.placed.Placed.{Placed}
use Rattle.cfi_verify.specs.Target.{LeadsTo, LeadsToEntry, entries_of}

-- an offset leads to one word
pub LeadsTo-one : (at : ℕ) (off : ℤ) (a b : ℕ) → LeadsTo at off a → LeadsTo at off b → a ≡ b
LeadsTo-one at (pos n) a b p q = omega (arith, p, q)
LeadsTo-one at (negsuc n) a b p q = omega (arith, p, q)

-- whether the word that an offset leads to is a first word
pub entry_iff : (m : Placed) (loaded : List Placed) (entries : List ℕ) (at : ℕ) (off : ℤ) (to : ℕ) (found : Bool) →
    IsPermutation (entries_of (m ∷ loaded)) entries → LeadsTo (m.base + at) off to →
    (IsTrue found ↔ Contains entries to) → (IsTrue found ↔ LeadsToEntry m loaded at off)
entry_iff m loaded entries at off to found all leads iff = (
  λ is. (
    to,
    leads,
    Contains-permutation entries (entries_of (m ∷ loaded)) to
        (IsPermutation-sym (entries_of (m ∷ loaded)) entries all) (iff.0 is),
  ),
  λ e.
      let same : e.0 ≡ to = LeadsTo-one (m.base + at) off e.0 to e.1 leads in
      iff.1 (subst (Contains entries) same (Contains-permutation (entries_of (m ∷ loaded)) entries e.0 all e.2)),
)
