-- How much modules tell at most.
use Rattle.std.proofs.Common.{◌≡◌, ◌∙◌, ℕ, suc, ◌+◌, ◌*◌, ◌-◌, ◌<◌, ◌≤◌, Option, Some, None, List, [], ◌∷◌, length, map, take, get_or, refl, sym, ap, arith, length-append}
use Rattle.std.specs.Prelude.{slice_get, sum_by}
use Rattle.std.specs.List.{flat_map, filter_map, cons_option}
use Rattle.std.proofs.lemmas.List.{length-map}
use Rattle.std.proofs.lemmas.List.Sums.{sum_by-cons, sum_by_more}
use Rattle.std.proofs.lemmas.Option.{same_Some, slice_get_within, slice_get-get_or}
use Rattle.cfi_unit.specs.declared.unit.Unit.{Unit as CodeUnit}
use Rattle.cfi_unit.specs.declared.spot.Spot.{Spot}
use Rattle.cfi_unit.specs.Unit.{words_of, size_of}
use Rattle.cfi_unit.specs.Spots.{spots_of}
use Rattle.cfi_unit.proofs.CodeLemmas.{length-words_of}
use Rattle.cfi_flow.specs.declared.links.Link.{Link}
use Rattle.cfi_flow.specs.declared.links.Flow.{Flow}
use Rattle.cfi_flow.specs.Flow.{flipped, link_count}
use Rattle.cfi_aux.specs.declared.placed.Placed.{Placed}
use Rattle.cfi_aux.specs.declared.records.Kind.{Kind}
use Rattle.cfi_graph.specs.declared.fact.Fact.{Fact}
use Rattle.cfi_graph.specs.declared.fact.Fact.TheVariants as facts
use Rattle.cfi_graph.specs.Shaped.{slot_of, slots_of as check_slots, IsShapedAs}
use Rattle.cfi_graph.specs.Calls.{HasKind}
use Rattle.cfi_graph.specs.Edges.{entry_count}
use Rattle.cfi_graph.specs.inner.Flows.{arrow_in, site_in, return_in, pointer_in, entry_in, listed_in, IsFlowOf}
use Rattle.cfi_graph.specs.inner.Told.{entries_of, listed_by, unit_told}

-- lists that are alike, number by number, have one sum
sum_same : {X Y : Type 0} (f : X → ℕ) (g : Y → ℕ) (xs : List X) (ys : List Y) → length xs ≡ length ys
    → ((k : ℕ) (x : X) (y : Y) → slice_get xs k ≡ Some x → slice_get ys k ≡ Some y → f x ≡ g y)
    → sum_by f xs ≡ sum_by g ys
sum_same f g [] [] len same = refl
sum_same f g [] (y ∷ ys) len same = absurd (omega (arith, len))
sum_same f g (x ∷ xs) [] len same = absurd (omega (arith, len))
sum_same f g (x ∷ xs) (y ∷ ys) len same =
    let rest : sum_by f xs ≡ sum_by g ys =
    sum_same f g xs ys (omega (arith, len)) (λ k a b p q. same (suc k) a b p q) in
    let first : f x ≡ g y = same 0 x y refl refl in
    omega (arith, rest, first, sum_by-cons f x xs, sum_by-cons g y ys)

module _ (m : Placed) where
  listed_one : (o : Option ℕ) (slots : List ℕ)
      → sum_by (λ s. listed_by m (Some s)) (cons_option o slots)
      ≡ listed_by m o + sum_by (λ s. listed_by m (Some s)) slots
  listed_one None slots = omega arith
  listed_one (Some slot) slots = sum_by-cons (λ s. listed_by m (Some s)) slot slots

  slots_sum : (code : List CodeUnit)
      → sum_by (λ u. listed_by m (slot_of u)) code ≡ sum_by (λ s. listed_by m (Some s)) (check_slots code)
  slots_sum [] = refl
  slots_sum (u ∷ code) =
      omega (
        arith,
        slots_sum code,
        sum_by-cons (λ v. listed_by m (slot_of v)) u code,
        listed_one (slot_of u) (check_slots code),
      )

  words_sum : (code : List CodeUnit)
      → sum_by (unit_told m) code ≡ length (flat_map words_of code) + sum_by (λ u. listed_by m (slot_of u)) code
  words_sum [] = refl
  words_sum (u ∷ code) =
      omega (
        arith,
        words_sum code,
        sum_by-cons (unit_told m) u code,
        sum_by-cons (λ v. listed_by m (slot_of v)) u code,
        length-append (words_of u) (flat_map words_of code),
        length-words_of u,
      )

  spots_sum : (a : ℕ) (code : List CodeUnit)
      → sum_by (λ s. unit_told m s.unit) (spots_of a code) ≡ sum_by (unit_told m) code
  spots_sum a [] = refl
  spots_sum a (u ∷ code) =
      let one : sum_by (λ s. unit_told m s.unit) (spots_of a (u ∷ code))
      ≡ unit_told m u + sum_by (λ s. unit_told m s.unit) (spots_of (a + size_of u) code) =
      sum_by-cons (λ s. unit_told m s.unit) (record { at = a; unit = u }) (spots_of (a + size_of u) code) in
      omega (arith, one, spots_sum (a + size_of u) code, sum_by-cons (unit_told m) u code)

  branches_sum : (code : List CodeUnit) → IsShapedAs m code
      → sum_by (λ s. listed_by m (Some s)) (check_slots code) ≡ sum_by entry_count m.branches
  branches_sum code shape =
      sum_same (λ s. listed_by m (Some s)) entry_count (check_slots code) m.branches shape.checks (λ k s kind p q.
      let within : k < length m.branches = slice_get_within m.branches k kind q in
      let at : m.slot_base + k ≡ s = same_Some (m.slot_base + k) s (sym (shape.slots k within) ∙ p) in
      let place : s - m.slot_base ≡ k = omega (arith, at) in
      ap (λ n. entries_of (slice_get m.branches n)) place ∙ ap entries_of q)

  -- all units of a module
  pub units_told : (code : List CodeUnit) → IsShapedAs m code → (spots : List Spot) → spots ≡ spots_of 0 code
      → sum_by (λ s. unit_told m s.unit) spots ≡ length m.words + sum_by entry_count m.branches
  units_told code shape spots are =
      let units = ap (λ ss. sum_by (λ s. unit_told m s.unit) ss) are ∙ spots_sum 0 code in
      let words : length m.words ≡ length (flat_map words_of code) = ap (λ ws. length ws) shape.units.spelled in
      omega (arith, units, words, words_sum code, slots_sum code, branches_sum code shape)

  -- the branch of a slot
  pub listed_kind : (slot : ℕ) (kind : Kind) → HasKind m slot kind → entry_count kind ≡ listed_by m (Some slot)
  listed_kind slot kind has =
      let place : slot - m.slot_base ≡ has.0 = omega (arith, has.1) in
      sym (ap (λ n. entries_of (slice_get m.branches n)) place ∙ ap entries_of has.2)

-- ---- the links of facts

module _ where
  abbrev counts : List Fact → ℕ
  counts list =
      length (filter_map arrow_in list) + length (filter_map site_in list) + length (filter_map return_in list)
      + length (filter_map pointer_in list) + length (filter_map entry_in list) + length (filter_map listed_in list)

  one_each : (list : List Fact) → counts list ≡ length list
  one_each [] = refl
  one_each (facts.Arrow l ∷ list) = let rest = one_each list in omega (arith, rest)
  one_each (facts.Site l ∷ list) = let rest = one_each list in omega (arith, rest)
  one_each (facts.Return l ∷ list) = let rest = one_each list in omega (arith, rest)
  one_each (facts.Pointer l ∷ list) = let rest = one_each list in omega (arith, rest)
  one_each (facts.Entry l ∷ list) = let rest = one_each list in omega (arith, rest)
  one_each (facts.Listed l ∷ list) = let rest = one_each list in omega (arith, rest)

-- one for each fact, and two for each link to a wider type
pub as_many_links : (list : List Fact) (widenings : List Link) (count : ℕ) (flow : Flow)
    → IsFlowOf list widenings count flow → link_count flow ≡ length list + 2 * length widenings
as_many_links list widenings count flow is =
    omega (
      arith,
      one_each list,
      ap (λ ls. length ls) is.arrows,
      length-append (filter_map arrow_in list) (map flipped widenings),
      length-map widenings flipped,
      ap (λ ls. length ls) is.widenings,
      ap (λ ls. length ls) is.sites,
      ap (λ ls. length ls) is.returns,
      ap (λ ls. length ls) is.pointers,
      ap (λ ls. length ls) is.entries,
      ap (λ ls. length ls) is.listed,
    )

-- ---- turn by turn

pub told_more : {X : Type 0} (f : X → ℕ) (xs : List X) (k : ℕ) (d : X) → k < length xs → (old mid new : ℕ)
    → mid ≤ old + sum_by f (take k xs) → new ≤ mid + f (get_or xs k d) → new ≤ old + sum_by f (take (k + 1) xs)
told_more f xs k d lt old mid new before now = omega (arith, before, now, sum_by_more f xs k d lt)

pub told_next : {X : Type 0} (f : X → ℕ) (xs : List X) (k : ℕ) (x : X) → slice_get xs k ≡ Some x → (mid new : ℕ)
    → mid ≤ sum_by f (take k xs) → new ≤ mid + f x → new ≤ sum_by f (take (k + 1) xs)
told_next f xs k x is mid new before now =
    let lt : k < length xs = slice_get_within xs k x is in
    let same : get_or xs k x ≡ x = same_Some (get_or xs k x) x (sym (slice_get-get_or xs k x lt) ∙ is) in
    omega (arith, before, now, sum_by_more f xs k x lt, ap f same)
