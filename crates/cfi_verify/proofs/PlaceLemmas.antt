-- Which units stand before a word and from it on, and what follows for functions.
use Rattle.std.proofs.Common.{◌≡◌, ◌↔◌, ℕ, ◌-◌, ◌<◌, ◌≤◌, List, length, get_or, true, ap, sym, ◌∙◌, ⊎_elim, arith}
use Rattle.std.specs.List.{Contains}
use Rattle.std.specs.List.Sorted.{IsNonDecreasingBy}
use Rattle.std.proofs.lemmas.Bool.{cases_lt}
use Rattle.std.proofs.lemmas.List.{get_or_default}
use Rattle.std.proofs.lemmas.List.Elements.{Contains-get_or}
use Rattle.cfi_aux.specs.declared.placed.PlacedFunction.{PlacedFunction}
use Rattle.cfi_unit.specs.declared.spot.Spot.{Spot}
use Rattle.cfi_unit.specs.Spots.{BeginsUnit}
use Rattle.cfi_verify.specs.Functions.{may_be_last, EndsWell}
use Rattle.cfi_aux.specs.Extent.{end_of, LiesIn}
use Rattle.cfi_aux.specs.Splits.{SplitsBelow}
use Rattle.cfi_verify.specs.inner.Places.{AreRising}

pub at_rises : (spots : List Spot) → AreRising spots → IsNonDecreasingBy (λ (s : Spot). s.at) spots
at_rises spots rise = λ i j d order within.
    ⊎_elim (λ (less : i < j). omega (arith, rise i j d less within))
    (λ (more : j ≤ i).
    let same : i ≡ j = omega arith in omega (arith, ap (λ (k : ℕ). (get_or spots k d).at) same))
    (cases_lt i j)

-- a unit that begins before the word is one of those before the number
number_below : (spots : List Spot) (at n : ℕ) → SplitsBelow (λ (s : Spot). s.at) spots at n →
    (k : ℕ) (d : Spot) → k < length spots →
    (get_or spots k d).at < at → k < n
number_below spots at n split k d within less =
    ⊎_elim (λ (low : k < n). low)
    (λ (high : n ≤ k). absurd (omega (arith, split.above k d high within, less)))
    (cases_lt k n)

number_above : (spots : List Spot) (at n : ℕ) → SplitsBelow (λ (s : Spot). s.at) spots at n →
    (k : ℕ) (d : Spot) →
    at ≤ (get_or spots k d).at → n ≤ k
number_above spots at n split k d more =
    ⊎_elim (λ (low : k < n). absurd (omega (arith, split.below k d (omega arith) low, more)))
    (λ (high : n ≤ k). high)
    (cases_lt k n)

-- where no unit is left, none begins
pub none_begins : (spots : List Spot) (at n : ℕ) → SplitsBelow (λ (s : Spot). s.at) spots at n
    → n ≡ length spots → ¬ BeginsUnit spots at
none_begins spots at n split whole = λ b.
    let k : ℕ = b.1.0 in
    let is : get_or spots k b.0 ≡ b.0 = b.1.2 in
    let inside : k < length spots = b.1.1 in
    let low : k < n = omega (arith, inside, whole) in
    absurd (omega (arith, split.below k b.0 (omega arith) low, ap (λ (s : Spot). s.at) is, b.2))

-- the first one that is left begins at the word, or none does
pub begins_first : (spots : List Spot) → AreRising spots → (at n : ℕ) (d : Spot) →
    SplitsBelow (λ (s : Spot). s.at) spots at n →
    n < length spots → BeginsUnit spots at ↔ ((get_or spots n d).at ≡ at)
begins_first spots rise at n d split within = (
  λ b.
      let k : ℕ = b.1.0 in
      let is : get_or spots k b.0 ≡ b.0 = b.1.2 in
      let place : (get_or spots k b.0).at ≡ at = ap (λ (s : Spot). s.at) is ∙ b.2 in
      let high : n ≤ k = number_above spots at n split k b.0 (omega (arith, place)) in
      let same : get_or spots n d ≡ get_or spots n b.0 = get_or_default spots n d b.0 within in
      let up : (get_or spots n b.0).at ≤ (get_or spots k b.0).at = at_rises spots rise n k b.0 high b.1.1 in
      omega (arith, split.above n d (omega arith) within, up, place, ap (λ (s : Spot). s.at) same),
  λ here. (get_or spots n d, Contains-get_or spots n d within, here),
)

-- ---- padding

-- the last unit before the end of a function
module _ (spots : List Spot) (rise : AreRising spots) (f : PlacedFunction) (n : ℕ)
    (split : SplitsBelow (λ (s : Spot). s.at) spots (end_of f) n) where
  -- the number of a unit of the function is below n
  of_function : (spot : Spot) → (has : Contains spots spot) → LiesIn f spot.at → has.0 < n
  of_function spot has lies =
      number_below spots (end_of f) n split has.0 spot has.1 (omega (arith, ap (λ (s : Spot). s.at) has.2, lies.1))

  -- whether the last unit before the end is the function's, and may be its last
  pub ends_last : (number : ℕ) (d : Spot) → 0 < n → f.first ≤ (get_or spots (n - 1) d).at →
      may_be_last (get_or spots (n - 1) d).unit ≡ true → EndsWell spots number f
  ends_last number d some first may =
      let at : ℕ = n - 1 in
      let inside : at < length spots = omega (arith, split.within, some) in (
        get_or spots at d,
        record {
          has = Contains-get_or spots at d inside;
          lies = (first, split.below at d (omega arith) (omega (arith, some)));
          last = λ other has lies.
              let before : has.0 ≤ at = omega (arith, of_function other has lies) in
              let same : get_or spots at other ≡ get_or spots at d = get_or_default spots at other d inside in
              let up : (get_or spots has.0 other).at ≤ (get_or spots at other).at =
              at_rises spots rise has.0 at other before inside in
              omega (arith, up, ap (λ (s : Spot). s.at) same, ap (λ (s : Spot). s.at) has.2);
        },
        may,
      )

  -- the last unit of the function is the last one before its end
  pub last_is : (number : ℕ) (d : Spot) → (e : EndsWell spots number f) →
      (0 < n) × (get_or spots (n - 1) d ≡ e.0)
  last_is number d e =
      let last = e.1 in
      let k : ℕ = last.has.0 in
      let at : ℕ = n - 1 in
      let low : k < n = of_function e.0 last.has last.lies in
      let inside : at < length spots = omega (arith, split.within, low) in
      let is : get_or spots k e.0 ≡ e.0 = last.has.2 in
      let place : (get_or spots k e.0).at ≡ e.0.at = ap (λ (s : Spot). s.at) is in
      let up : (get_or spots k e.0).at ≤ (get_or spots at e.0).at =
      at_rises spots rise k at e.0 (omega (arith, low)) inside in
      let lies : LiesIn f (get_or spots at e.0).at =
      (omega (arith, up, place, last.lies.0), split.below at e.0 (omega arith) (omega (arith, low))) in
      let most : (get_or spots at e.0).at ≤ e.0.at =
      last.last (get_or spots at e.0) (Contains-get_or spots at e.0 inside) lies in
      let same : k ≡ at =
      ⊎_elim
      (λ (less : k < at). absurd (omega (arith, rise k at e.0 less inside, most, place)))
      (λ (more : at ≤ k). omega (arith, more, low))
      (cases_lt k at) in (
        omega (arith, low),
        get_or_default spots at d e.0 inside ∙ ap (λ (j : ℕ). get_or spots j e.0) (sym same) ∙ is,
      )
