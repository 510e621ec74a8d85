-- Items that do not overlap, none of which ends before its own start.
use Rattle.std.proofs.Common.{◌≡◌, ℕ, zero, suc, ◌+◌, ◌-◌, ◌<◌, ◌≤◌, List, length, get_or, ap, sym, subst, ⊎_elim, arith}
use Rattle.std.specs.List.Sorted.{IsNonDecreasingBy}
use Rattle.std.proofs.lemmas.Bool.{cases_lt}
use Rattle.cfi_aux.specs.Extent.{DoNotOverlap}

module _ {T : Type 0} (start end : T → ℕ) (forward : (x : T) → start x ≤ end x) (xs : List T) where
  module _ (next : (k : ℕ) (d : T) → k + 1 < length xs → end (get_or xs k d) ≤ start (get_or xs (k + 1) d)) where
    later : (i more : ℕ) (d : T) → i + more + 1 < length xs → end (get_or xs i d) ≤ start (get_or xs (i + more + 1) d)
    later i zero d within =
        let same : i + 0 + 1 ≡ i + 1 = omega arith in
        subst (λ (j : ℕ). end (get_or xs i d) ≤ start (get_or xs j d)) (sym same) (next i d (omega (arith, within)))
    later i (suc more) d within =
        let same : i + suc more + 1 ≡ i + more + 1 + 1 = omega arith in
        subst (λ (j : ℕ). end (get_or xs i d) ≤ start (get_or xs j d)) (sym same)
        (omega (
          arith,
          later i more d (omega (arith, within)),
          forward (get_or xs (i + more + 1) d),
          next (i + more + 1) d (omega (arith, within)),
        ))

    -- items each of which ends before the next one begins
    pub in_order_by_next : DoNotOverlap start end xs
    in_order_by_next = λ i j d less within.
        let same : i + (j - i - 1) + 1 ≡ j = omega (arith, less) in
        subst (λ (k : ℕ). end (get_or xs i d) ≤ start (get_or xs k d)) same
        (later i (j - i - 1) d (omega (arith, less, within)))

  module _ (order : DoNotOverlap start end xs) where
    pub ends_rise : IsNonDecreasingBy end xs
    ends_rise = λ i j d up within.
        ⊎_elim (λ (less : i < j). omega (arith, order i j d less within, forward (get_or xs j d)))
        (λ (more : j ≤ i).
        let same : i ≡ j = omega arith in omega (arith, ap (λ (k : ℕ). end (get_or xs k d)) same))
        (cases_lt i j)

    pub starts_rise : IsNonDecreasingBy start xs
    starts_rise = λ i j d up within.
        ⊎_elim (λ (less : i < j). omega (arith, order i j d less within, forward (get_or xs i d)))
        (λ (more : j ≤ i).
        let same : i ≡ j = omega arith in omega (arith, ap (λ (k : ℕ). start (get_or xs k d)) same))
        (cases_lt i j)
