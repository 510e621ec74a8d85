-- Functions in order, and the one in which a word lies.
use Rattle.std.proofs.Common.{◌≡◌, ◌⊎◌, ℕ, ◌+◌, ◌*◌, ◌^◌, ◌<◌, ◌≤◌, List, length, get_or, Option, Some, refl, ap, sym, subst, ◌∙◌, ⊎_elim, add-one, arith}
use Rattle.std.specs.List.{Contains, slice_get}
use Rattle.std.specs.List.Sorted.{IsNonDecreasingBy}
use Rattle.std.proofs.lemmas.Bool.{cases_lt}
use Rattle.std.proofs.lemmas.List.{get_or_default}
use Rattle.std.proofs.lemmas.List.Elements.{Contains-get_or}
use Rattle.std.proofs.lemmas.Option.{slice_get-get_or, some_pair_parts}
use Rattle.cfi_aux.specs.declared.placed.Placed.{Placed}
use Rattle.cfi_aux.specs.declared.placed.PlacedFunction.{PlacedFunction}
use Rattle.cfi_aux.proofs.OverlapLemmas.{in_order_by_next, ends_rise as ends_rise_by}
use Rattle.cfi_unit.specs.declared.spot.Spot.{Spot}
use Rattle.elf_read.specs.Lists.{Each}
use Rattle.cfi_verify.specs.Functions.{end_in, end_before, IsIdle, FitsBehind}
use Rattle.cfi_aux.specs.Extent.{end_of, LiesIn}
use Rattle.cfi_verify.specs.Target.{IsAtHome}
use Rattle.cfi_aux.specs.Splits.{SplitsUpTo}
use Rattle.cfi_verify.specs.inner.Places.{AreFunctionsApart, AreInRange, IsHome}

-- where the function of a number ends
pub end_before-next : (functions : List PlacedFunction) (k : ℕ) (f : PlacedFunction) →
    slice_get functions k ≡ Some f → end_before functions (k + 1) ≡ end_of f
end_before-next functions k f is = ap (end_before functions) (add-one k) ∙ ap end_in is

-- the same words, idle
pub idle_same : (spots : List Spot) (a b from to : ℕ) → a ≡ from → b ≡ to → IsIdle spots a b → IsIdle spots from to
idle_same spots a b from to p q idle =
    subst (λ (k : ℕ). IsIdle spots from k) q (subst (λ (k : ℕ). IsIdle spots k b) p idle)

module _ (m : Placed) (spots : List Spot) (fit : Each m.functions (FitsBehind m spots)) where
  -- the next function begins where one ends or after it
  next_after : (k : ℕ) (d : PlacedFunction) → k + 1 < length m.functions →
      end_of (get_or m.functions k d) ≤ (get_or m.functions (k + 1) d).first
  next_after k d within =
      let here = slice_get-get_or m.functions k d (omega (arith, within)) in
      let next = slice_get-get_or m.functions (k + 1) d within in
      omega (
        arith,
        (fit (k + 1) (get_or m.functions (k + 1) d) next).order,
        end_before-next m.functions k (get_or m.functions k d) here,
      )

  pub in_order : AreFunctionsApart m.functions
  in_order = in_order_by_next (λ (f : PlacedFunction). f.first) end_of (λ f. omega arith) m.functions next_after

  pub in_range : 4 * length m.words < 2 ^ 32 → AreInRange m.functions
  in_range small = λ k d within.
      let fits = fit k (get_or m.functions k d) (slice_get-get_or m.functions k d within) in
      omega (arith, fits.within, small)

pub ends_rise : (functions : List PlacedFunction) → AreFunctionsApart functions → IsNonDecreasingBy end_of functions
ends_rise functions order = ends_rise_by (λ (f : PlacedFunction). f.first) end_of (λ f. omega arith) functions order

module _ (functions : List PlacedFunction) (at n : ℕ) (split : SplitsUpTo end_of functions at n) where
  -- a function in which the word lies is not before the number
  home_from : (f : PlacedFunction) → (has : Contains functions f) → LiesIn f at → n ≤ has.0
  home_from f has lies =
      ⊎_elim
      (λ (low : has.0 < n). absurd (omega (arith, split.below has.0 f (omega arith) low, ap end_of has.2, lies.1)))
      (λ (high : n ≤ has.0). high)
      (cases_lt has.0 n)

  module _ (order : AreFunctionsApart functions) (d : PlacedFunction) (inside : n < length functions) where
    -- a function after the number n begins where that one ends or after it
    home_after : (f : PlacedFunction) → (has : Contains functions f) → n < has.0 →
        end_of (get_or functions n d) ≤ f.first
    home_after f has less =
        let same = get_or_default functions n d f inside in
        omega (arith, order n has.0 f less has.1, ap end_of same, ap (λ (g : PlacedFunction). g.first) has.2)

    pub no_home_here : at < (get_or functions n d).first → (f : PlacedFunction) → Contains functions f → ¬ LiesIn f at
    no_home_here early f has = λ lies.
        ⊎_elim
        (λ (less : n < has.0). absurd (omega (arith, home_after f has less, early, lies.0)))
        (λ (more : has.0 ≤ n).
        let same : has.0 ≡ n = omega (arith, more, home_from f has lies) in
        let is : get_or functions n f ≡ f = ap (λ (k : ℕ). get_or functions k f) (sym same) ∙ has.2 in
        let other = get_or_default functions n d f inside in
        absurd (omega (arith, early, lies.0, ap (λ (g : PlacedFunction). g.first) (other ∙ is))))
        (cases_lt n has.0)

    pub home_here : (get_or functions n d).first ≤ at →
        IsHome functions at (get_or functions n d).first (end_of (get_or functions n d))
    home_here late = record {
      home = get_or functions n d;
      has = Contains-get_or functions n d inside;
      lies = (late, split.above n d (omega arith) inside);
      begins = refl;
      ends = refl;
    }

    pub one_home : (f : PlacedFunction) → Contains functions f → LiesIn f at → get_or functions n d ≡ f
    one_home f has lies =
        let same : has.0 ≡ n =
        ⊎_elim
        (λ (less : n < has.0).
        absurd (omega (arith, home_after f has less, lies.0, split.above n d (omega arith) inside)))
        (λ (more : has.0 ≤ n). omega (arith, more, home_from f has lies))
        (cases_lt n has.0) in
        get_or_default functions n d f inside ∙ ap (λ (k : ℕ). get_or functions k f) (sym same) ∙ has.2

-- a word outside the one function in which another lies is not at home with that
pub not_home : (functions : List PlacedFunction) (spots : List Spot) (at to first end : ℕ) →
    ((f : PlacedFunction) → Contains functions f → LiesIn f at →
    ◌≡◌ {A = Option (ℕ × ℕ)} (Some (first, end)) (Some (f.first, end_of f))) →
    (to < first) ⊎ (end ≤ to) → ¬ IsAtHome functions spots at to
not_home functions spots at to first end only outside = λ h.
    let same = some_pair_parts first h.home.first end (end_of h.home) (only h.home h.has h.from) in
    ⊎_elim (λ (low : to < first). absurd (omega (arith, low, same.0, h.lies.0)))
    (λ (high : end ≤ to). absurd (omega (arith, high, same.1, h.lies.1)))
    outside
