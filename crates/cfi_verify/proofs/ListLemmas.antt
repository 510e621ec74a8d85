-- The first item of a list that is not as it should be.
use Rattle.std.proofs.Common.{◌≡◌, ℕ, ◌+◌, ◌<◌, ◌≤◌, List, length, get_or, Some, sym, subst, ⊎_elim, arith}
use Rattle.std.specs.List.{slice_get}
use Rattle.std.proofs.lemmas.Bool.{cases_lt}
use Rattle.std.proofs.lemmas.Option.{slice_get-get_or, get_or_from_slice_get, slice_get_within}
use Rattle.elf_read.specs.Lists.{Each, EachBelow, Breaks, IsFirstBreak}

module _ {T : Type 0} (xs : List T) (P : ℕ → T → Type 0) where
  pub each_none : EachBelow xs P 0
  each_none = λ k x less is. absurd (omega (arith, less))

  -- one more item is as it should be
  pub each_more : (n : ℕ) (d : T) → EachBelow xs P n → P n (get_or xs n d) → EachBelow xs P (n + 1)
  each_more n d before here = λ k x less is.
      ⊎_elim (λ (low : k < n). before k x low is)
      (λ (high : n ≤ k).
      let same : k ≡ n = omega arith in
      let item : get_or xs k d ≡ x = get_or_from_slice_get xs k x d is in
      subst (λ (y : T). P k y) item (subst (λ (j : ℕ). P j (get_or xs j d)) (sym same) here))
      (cases_lt k n)

  pub each_all : (n : ℕ) → EachBelow xs P n → length xs ≤ n → Each xs P
  each_all n before all = λ k x is.
      let within : k < length xs = slice_get_within xs k x is in
      before k x (omega arith) is

  -- the next one is not
  pub first_here : (place : ℕ → T → ℕ) (n at : ℕ) (d : T) → EachBelow xs P n → n < length xs →
      ¬ P n (get_or xs n d) → at ≡ place n (get_or xs n d) → IsFirstBreak xs place P at
  first_here place n at d before within fails here = record {
    number = n;
    item = get_or xs n d;
    is = slice_get-get_or xs n d within;
    here = here;
    fails = fails;
    before = before;
  }

  -- the first one is some one
  pub break_of : (place : ℕ → T → ℕ) (at : ℕ) → IsFirstBreak xs place P at → Breaks xs place P at
  break_of place at first = (first.number, first.item, first.is, first.here, first.fails)

  -- where each one is as it should be, none is not
  pub no_break : (place : ℕ → T → ℕ) (at : ℕ) → Each xs P → ¬ Breaks xs place P at
  no_break place at each = λ b. b.4 (each b.0 b.1 b.2)

  -- no one is at an earlier place than the first, where places rise
  pub first_is_least : (place : ℕ → T → ℕ) (a b : ℕ) →
      ((i j : ℕ) (x y : T) → slice_get xs i ≡ Some x → slice_get xs j ≡ Some y → i ≤ j → place i x ≤ place j y) →
      IsFirstBreak xs place P a → Breaks xs place P b → a ≤ b
  first_is_least place a b rise first other =
      ⊎_elim (λ (low : other.0 < first.number). absurd (other.4 (first.before other.0 other.1 low other.2)))
      (λ (high : first.number ≤ other.0).
      let order : place first.number first.item ≤ place other.0 other.1 =
      rise first.number other.0 first.item other.1 first.is other.2 high in
      omega (arith, order, first.here, other.3))
      (cases_lt other.0 first.number)
