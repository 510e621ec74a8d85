-- What a partition by a bound has found, where the number by which it goes does not fall from one item to the next.
use Rattle.std.proofs.Common.{◌≡◌, ℕ, ◌≤◌, Bool, true, false, ltb, leb, leb-true, Bor, List, length}
use Rattle.std.specs.Fn.{Mut, Called, ComputesKey}
use Rattle.std.specs.List.Sorted.{IsNonDecreasingBy, IsPartitionPoint, IsPartitionedBy}
use Rattle.std.proofs.lemmas.Bool.{ltb-true, ltb-false, leb-false}
use Rattle.std.proofs.lemmas.List.Sorted.{IsPartitionPoint-from_clause, IsPartitionedBy-ltb, IsPartitionedBy-leb}
use Rattle.cfi_aux.specs.Splits.{SplitsBelow, SplitsUpTo}

-- what `partition_point` ensures of its test
abbrev pub PartsBy : {T F : Type 0} → Mut F (Bor T × Unit {0}) Bool → F → List T → (n : ℕ) → Type 0
PartsBy {T} g f xs n = (q : T → Bool) → ComputesKey g q f → IsPartitionedBy q xs
    → IsPartitionPoint (λ y. q y ≡ true) (λ y. q y ≡ false) xs n

-- each call of the test answers p
abbrev pub Tests : {T F : Type 0} → Mut F (Bor T × Unit {0}) Bool → F → (p : T → Bool) → Type 0
Tests {T} {F} g f p = (a : Bor T × Unit {0}) (r : Bool) (f' : F) → Called g f a r f' → (r ≡ p a.0.now) × (f' ≡ f)

module _ {T F : Type 0} {g : Mut F (Bor T × Unit {0}) Bool} {f : F} (value : T → ℕ) (xs : List T) (bound n : ℕ)
    (within : n ≤ length xs) (rises : IsNonDecreasingBy value xs) (parts : PartsBy g f xs n) where
  pub splits_below : Tests g f (λ (x : T). ltb (value x) bound) → SplitsBelow value xs bound n
  splits_below tests =
      let parted = IsPartitionedBy-ltb value xs bound rises in
      let point = IsPartitionPoint-from_clause (λ (x : T). ltb (value x) bound) xs n parts parted tests in
      record {
        within = within;
        below = λ k d from to. ltb-true _ _ (point.0 k d from to);
        above = λ k d from to. ltb-false _ _ (point.1 k d from to);
      }

  pub splits_up_to : Tests g f (λ (x : T). leb (value x) bound) → SplitsUpTo value xs bound n
  splits_up_to tests =
      let parted = IsPartitionedBy-leb value xs bound rises in
      let point = IsPartitionPoint-from_clause (λ (x : T). leb (value x) bound) xs n parts parted tests in
      record {
        within = within;
        below = λ k d from to. leb-true _ _ (point.0 k d from to);
        above = λ k d from to. leb-false _ _ (point.1 k d from to);
      }
