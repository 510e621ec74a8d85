-- Functions in order, and what a search among them finds.
use Rattle.std.proofs.Common.{◌≡◌, ℕ, suc, ◌+◌, ◌-◌, ◌<◌, ◌≤◌, ◌∙◌, ◌&&◌, true, false, eqb, List, length, get_or, Option, Some, None, refl, ap, ⊎_elim, add-one, arith}
use Rattle.std.specs.List.{Contains, slice_get}
use Rattle.std.specs.List.Sorted.{IsNonDecreasingBy}
use Rattle.std.proofs.lemmas.Bool.{cases_lt, false≢true, and_parts, eqb-true, eq-eqb, ne_eqb}
use Rattle.std.proofs.lemmas.Bool.Decides.{same_from_decides}
use Rattle.std.proofs.lemmas.Option.{slice_get-get_or, get_or_from_slice_get, slice_get_within}
use Rattle.elf_read.specs.Lists.{Each}
use Rattle.cfi_aux.specs.declared.records.Function.{Function}
use Rattle.cfi_aux.specs.Extent.{byte_end, Covers}
use Rattle.cfi_aux.specs.Splits.{SplitsBelow, SplitsUpTo}
use Rattle.cfi_aux.proofs.OverlapLemmas.{in_order_by_next, ends_rise as ends_rise_by, starts_rise as starts_rise_by}
use Rattle.cfi_instr.specs.Words.{Words}
use Rattle.cfi_instr.specs.Functions.{byte_end_in, byte_end_before, IsFormedBehind}
use Rattle.cfi_instr.specs.inner.Functions.{covers, are_together, is_entry}
use Rattle.cfi_instr.specs.inner.Homes.{AreApart, has_both, begins_at}
use Rattle.cfi_instr.proofs.DecideLemmas.{some-from, from-some}
use Rattle.cfi_instr.proofs.FunctionTests.{covers-holds}

-- ---- functions that are well formed are in order

end-before : (functions : List Function) (k : ℕ) → byte_end_before functions (suc k) ≡ byte_end_in (slice_get functions k)
end-before functions k =
    let back : suc k - 1 ≡ k = omega arith in
    let some : eqb (suc k) 0 ≡ false = ne_eqb (suc k) 0 (λ e. omega (arith, e)) in
    rw some (ap (λ (n : ℕ). byte_end_in (slice_get functions n)) back)

module _ (t : Words) (functions : List Function) (formed : Each functions (IsFormedBehind t functions)) where
  -- the next function begins where one ends or after it
  next_after : (k : ℕ) (d : Function) → k + 1 < length functions
      → byte_end (get_or functions k d) ≤ (get_or functions (k + 1) d).offset
  next_after k d within =
      let here = slice_get-get_or functions k d (omega (arith, within)) in
      let next = slice_get-get_or functions (k + 1) d within in
      let before : byte_end_before functions (k + 1) ≡ byte_end (get_or functions k d) =
      ap (byte_end_before functions) (add-one k) ∙ end-before functions k ∙ ap byte_end_in here in
      omega (arith, (formed (k + 1) (get_or functions (k + 1) d) next).order, before)

  pub in_order : AreApart functions
  in_order = in_order_by_next (λ (f : Function). f.offset) byte_end (λ f. omega arith) functions next_after

-- ---- what rises

module _ (functions : List Function) (order : AreApart functions) where
  pub ends_rise : IsNonDecreasingBy byte_end functions
  ends_rise = ends_rise_by (λ (f : Function). f.offset) byte_end (λ f. omega arith) functions order

  pub starts_rise : IsNonDecreasingBy (λ (f : Function). f.offset) functions
  starts_rise = starts_rise_by (λ (f : Function). f.offset) byte_end (λ f. omega arith) functions order

-- ---- what is found

-- the item of a number that is there
found-has : {T : Type 0} (xs : List T) (n : ℕ) (x : T) → slice_get xs n ≡ Some x → Contains xs x
found-has xs n x is = (n, slice_get_within xs n x is, get_or_from_slice_get xs n x x is)

both-any : (functions : List Function) (n a b : ℕ) (found : Option Function) → slice_get functions n ≡ found
    → has_both found a b ≡ true → are_together functions a b ≡ true
both-any functions n a b None is both = absurd (false≢true both)
both-any functions n a b (Some f) is both =
    from-some (λ (g : Function). covers a g && covers b g) functions f (found-has functions n f is) both

begins-any : (functions : List Function) (n a : ℕ) (found : Option Function) → slice_get functions n ≡ found
    → begins_at found a ≡ true → is_entry functions a ≡ true
begins-any functions n a None is begins = absurd (false≢true begins)
begins-any functions n a (Some f) is begins =
    from-some (λ (g : Function). eqb g.offset a) functions f (found-has functions n f is) begins

module _ (functions : List Function) (order : AreApart functions) (a n : ℕ) where
  -- the one function that has the offset is that of the number
  pub home-found : SplitsUpTo byte_end functions a n → (f : Function) → Contains functions f → Covers f a
      → slice_get functions n ≡ Some f
  home-found split f has lies =
      let k : ℕ = has.0 in
      let late : n ≤ k =
      ⊎_elim
      (λ (low : k < n). absurd (omega (arith, split.below k f (omega arith) low, ap byte_end has.2, lies.1)))
      (λ (high : n ≤ k). high)
      (cases_lt k n) in
      let early : k ≤ n =
      ⊎_elim
      (λ (less : n < k).
      absurd
      (omega (
        arith,
        order n k f less has.1,
        split.above n f (omega arith) (omega (arith, less, has.1)),
        ap (λ (g : Function). g.offset) has.2,
        lies.0,
      )))
      (λ (more : k ≤ n). more)
      (cases_lt n k) in
      let same : n ≡ k = omega (arith, late, early) in
      ap (slice_get functions) same ∙ slice_get-get_or functions k f has.1 ∙ ap (λ (g : Function). Some g) has.2

  pub together-found : SplitsUpTo byte_end functions a n → (b : ℕ)
      → has_both (slice_get functions n) a b ≡ are_together functions a b
  together-found split b =
      same_from_decides (has_both (slice_get functions n) a b) (are_together functions a b) (
        λ both. both-any functions n a b (slice_get functions n) refl both,
        λ any.
            let some = some-from (λ (f : Function). covers a f && covers b f) functions any in
            let first = and_parts (covers a some.0) (covers b some.0) some.2 in
            let is = home-found split some.0 some.1 (covers-holds a some.0 first.0) in
            ap (λ (found : Option Function). has_both found a b) is ∙ some.2,
      ) (λ e. e, λ e. e)

  -- some function begins at the offset exactly where that of the number does
  pub entry-found : SplitsBelow (λ (f : Function). f.offset) functions a n
      → begins_at (slice_get functions n) a ≡ is_entry functions a
  entry-found split =
      same_from_decides (begins_at (slice_get functions n) a) (is_entry functions a) (
        λ begins. begins-any functions n a (slice_get functions n) refl begins,
        λ any.
            let some = some-from (λ (f : Function). eqb f.offset a) functions any in
            let f = some.0 in
            let k : ℕ = some.1.0 in
            let at : (get_or functions k f).offset ≡ a =
            ap (λ (g : Function). g.offset) some.1.2 ∙ eqb-true f.offset a some.2 in
            let late : n ≤ k =
            ⊎_elim
            (λ (low : k < n). absurd (omega (arith, split.below k f (omega arith) low, at)))
            (λ (high : n ≤ k). high)
            (cases_lt k n) in
            let inside : n < length functions = omega (arith, late, some.1.1) in
            let above : a ≤ (get_or functions n f).offset = split.above n f (omega arith) inside in
            let below : (get_or functions n f).offset ≤ (get_or functions k f).offset =
            starts_rise functions order n k f late some.1.1 in
            let is = slice_get-get_or functions n f inside in
            ap (λ (found : Option Function). begins_at found a) is
            ∙ eq-eqb (get_or functions n f).offset a (omega (arith, above, below, at)),
      ) (λ e. e, λ e. e)
