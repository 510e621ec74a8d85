-- A test of numbers that decides what holds of the items of a list.
use Rattle.std.proofs.Common.{◌≡◌, ℕ, zero, suc, ◌<◌, Bool, true, false, List, [], ◌∷◌, length, Some, refl, ap, ◌∙◌, arith}
use Rattle.std.specs.List.{Contains, list_any, slice_get}
use Rattle.std.proofs.lemmas.Bool.{both_ways}
use Rattle.std.proofs.lemmas.Option.{slice_get_within}
use Rattle.std.proofs.lemmas.List.Folds.{Any-from_list_any, list_any_at}
use Rattle.elf_read.specs.Places.{IsNone}
use Rattle.elf_read.specs.Lists.{Each, IsFirstBreak}

-- the test of a number fails exactly where P holds of the item of that number
pub record Decides {T : Type 0} (xs : List T) (test : ℕ → Bool) (P : ℕ → T → Type 0) : Type 0 where
  pub holds : (k : ℕ) (x : T) → slice_get xs k ≡ Some x → test k ≡ false → P k x
  pub clear : (k : ℕ) (x : T) → slice_get xs k ≡ Some x → P k x → test k ≡ false

item-at : {T : Type 0} (xs : List T) (k : ℕ) → k < length xs → (x : T) × (slice_get xs k ≡ Some x)
item-at [] k less = absurd (omega (arith, less))
item-at (x ∷ xs) zero less = (x, refl)
item-at (x ∷ xs) (suc k) less = item-at xs k (omega (arith, less))

module _ {T : Type 0} (xs : List T) (test : ℕ → Bool) (P : ℕ → T → Type 0) (d : Decides xs test P) where
  pub each-from : IsNone test (length xs) → Each xs P
  each-from none = λ k x is. d.holds k x is (none k (slice_get_within xs k x is))

  pub none-from : Each xs P → IsNone test (length xs)
  none-from each = λ k less. let at = item-at xs k less in d.clear k at.0 at.1 (each k at.0 at.1)

  -- the first number that passes the test is that of the first item of which P does not hold
  pub break-from : (place : ℕ → T → ℕ) (k at : ℕ) → k < length xs → test k ≡ true
      → ((j : ℕ) → j < k → test j ≡ false) → ((x : T) → at ≡ place k x) → IsFirstBreak xs place P at
  break-from place k at within passes before here =
      let found = item-at xs k within in record {
        number = k;
        item = found.0;
        is = found.1;
        here = here found.0;
        fails = λ good. absurd (both_ways (test k) (d.clear k found.0 found.1 good) passes);
        before = λ j x less is. d.holds j x is (before j less);
      }

-- ---- an item that passes a test

module _ {T : Type 0} (test : T → Bool) (xs : List T) where
  pub some-from : list_any test xs ≡ true → (x : T) × Contains xs x × (test x ≡ true)
  some-from h = let some = Any-from_list_any test xs h in (some.1, (some.0, some.2, some.3), some.4)

  pub from-some : (x : T) → Contains xs x → test x ≡ true → list_any test xs ≡ true
  from-some x has h = list_any_at test xs has.0 x has.1 (ap test has.2 ∙ h)
