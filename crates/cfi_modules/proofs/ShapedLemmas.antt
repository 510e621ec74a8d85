-- Verified modules at the next free places are shaped.
use Rattle.std.proofs.Common.{◌≡◌, ℕ, zero, suc, ◌+◌, ◌<◌, ◌≤◌, Bool, true, false, Some, List, length, get_or, ap, subst, ◌∙◌, ⊎_elim, add-one, arith}
use Rattle.std.specs.Prelude.{IsTrue, nat_lt}
use Rattle.std.specs.List.{slice_get}
use Rattle.std.specs.Option.{option_map}
use Rattle.std.proofs.lemmas.Bool.{cases_lt, ltb-true, and_parts}
use Rattle.std.proofs.lemmas.List.{length-map}
use Rattle.std.proofs.lemmas.List.Elements.{All-weaker}
use Rattle.std.proofs.lemmas.Option.{slice_get-get_or, slice_get-map, slice_get_past}
use Rattle.cfi_type_table.specs.Node.{Node}
use Rattle.cfi_word.specs.declared.map.TheConstants.{FIRST_BASE}
use Rattle.cfi_word.specs.declared.limits.TheConstants.{MAX_CODE_WORDS}
use Rattle.cfi_type_table.specs.Kind.{is_callable}
use Rattle.cfi_aux.specs.declared.placed.Placed.{Placed}
use Rattle.cfi_aux.specs.declared.placed.PlacedFunction.{PlacedFunction}
use Rattle.cfi_aux.specs.declared.records.Kind.{Kind}
use Rattle.cfi_aux.specs.declared.records.Kind.TheVariants.{Call, Tail, Return, Switch, Import}
use Rattle.cfi_unit.specs.Spots.{place_of}
use Rattle.cfi_graph.specs.Shaped.{slots_of, IsPart, IsUnitPlace, IsNamed, IsShapedAs, AreShaped}
use Rattle.cfi_unit.specs.declared.spot.Spot.{Spot}
use Rattle.cfi_verify.specs.declared.checks.CheckSpot.{CheckSpot}
use Rattle.cfi_verify.specs.Spots.{checks_of}
use Rattle.cfi_aux.specs.Extent.{end_of}
use Rattle.cfi_verify.specs.Branches.{IsKindOf, IsRecordOf, IsEntry, AreEntries, AreEntriesIn}
use Rattle.cfi_verify.specs.Fault.{IsVerifiedAs}
use Rattle.cfi_verify.proofs.FunctionLemmas.{in_order}
use Rattle.cfi_modules.specs.Loaded.{AreLoaded}
use Rattle.cfi_modules.proofs.SlotLemmas.{slots_are}
use Rattle.cfi_unit.proofs.SpotLemmas.{place_number, last_place, place_mono}

-- the type of a function is there
func_there : (types : List Node) (n : ℕ) → IsTrue (is_callable types n) → n < length types
func_there types n is = ltb-true n (length types) (and_parts (nat_lt n (length types)) _ is).0

abbrev none : CheckSpot
none = record { at = 0; link = false; slot = 0 }

module _ (m : Placed) (loaded : List Placed) (spots : List Spot) (v : IsVerifiedAs m loaded spots) where
  -- a function is the units from the one at which it begins up to the one at which it ends
  part_to : (f : PlacedFunction) (from to : ℕ) → 0 < f.count → to ≤ length v.laid.units.code →
      f.first ≡ place_of v.laid.units.code from → end_of f ≡ place_of v.laid.units.code to →
      IsPart v.laid.units.code f
  part_to f from to some within begins ends = record {
    from = from;
    to = to;
    some = ⊎_elim (λ (less : from < to). less)
        (λ (more : to ≤ from).
        absurd (omega (arith, place_mono v.laid.units.code to from more, begins, ends, some)))
        (cases_lt from to);
    within = within;
    begins = begins;
    ends = ends;
  }

  part : (k : ℕ) (f : PlacedFunction) → slice_get m.functions k ≡ Some f → IsPart v.laid.units.code f
  part k f is =
      let are = v.laid.units in
      let fits = v.laid.functions k f is in
      let from = place_number m.words spots are f.first fits.begins in
      ⊎_elim
      (λ (last : end_of f ≡ length m.words).
      part_to f from.0 (length are.code) fits.some (omega arith) from.2 (last ∙ last_place m.words spots are))
      (λ b.
      let to = place_number m.words spots are (end_of f) b in
      part_to f from.0 to.0 fits.some (omega (arith, to.1)) from.2 to.2)
      fits.ends

  -- the check of a number
  check : (k : ℕ) → k < length m.branches →
      slice_get (checks_of spots) k ≡ Some (get_or (checks_of spots) k none)
  check k within = slice_get-get_or (checks_of spots) k none (omega (arith, within, v.records))

  -- each check has a branch
  recorded : length (checks_of spots) ≤ length m.branches
  recorded =
      ⊎_elim
      (λ (less : length m.branches < length (checks_of spots)).
      let k : ℕ = length m.branches in
      let c = get_or (checks_of spots) k none in
      let kind : IsRecordOf m.types c.link (slice_get m.branches k) =
      v.kinds k c (slice_get-get_or (checks_of spots) k none less) in
      absurd (subst (IsRecordOf m.types c.link) (slice_get_past m.branches k (omega arith)) kind))
      (λ (more : length (checks_of spots) ≤ length m.branches). more)
      (cases_lt (length m.branches) (length (checks_of spots)))

  slot : (k : ℕ) → k < length m.branches →
      slice_get (slots_of v.laid.units.code) k ≡ Some (m.slot_base + k)
  slot k within =
      let are = v.laid.units in
      let c = get_or (checks_of spots) k none in
      ap (λ (xs : List ℕ). slice_get xs k) (slots_are m.words spots are)
      ∙ slice_get-map (λ (d : CheckSpot). d.slot) (checks_of spots) k
      ∙ ap (option_map (λ (d : CheckSpot). d.slot)) (check k within)
      ∙ ap (λ (n : ℕ). Some n) (v.laid.slots k c (check k within))

  -- a branch that fits its check names a node, or units
  named_by : (kind : Kind) (link : Bool) (at : ℕ) → IsKindOf m.types link kind → AreEntries m spots at kind →
      IsNamed v.laid.units.code (length m.types) kind
  named_by (Call node) true at fits entries = func_there m.types node fits
  named_by (Call node) false at fits entries = absurd fits
  named_by (Tail node) true at fits entries = absurd fits
  named_by (Tail node) false at fits entries = func_there m.types node fits
  named_by Return link at fits entries = tt
  named_by (Import name cell) link at fits entries = tt
  named_by (Switch list) link at fits entries =
      All-weaker (IsEntry m spots at) (IsUnitPlace v.laid.units.code)
      (λ offset e.
      let number = place_number m.words spots v.laid.units e.0 e.2.unit in
      (number.0, number.1, omega (arith, e.1, number.2)))
      list entries

  named : (k : ℕ) (d : Kind) → k < length m.branches →
      IsNamed v.laid.units.code (length m.types) (get_or m.branches k d)
  named k d within =
      let c = get_or (checks_of spots) k none in
      let here = slice_get-get_or m.branches k d within in
      named_by (get_or m.branches k d) c.link c.at
      (subst (IsRecordOf m.types c.link) here (v.kinds k c (check k within)))
      (subst (AreEntriesIn m spots c.at) here (v.switches k c (check k within)))

  pub shaped_as : FIRST_BASE ≤ m.base → m.base + length m.words ≤ MAX_CODE_WORDS →
      IsShapedAs m v.laid.units.code
  shaped_as begins ends =
      let slots = slots_are m.words spots v.laid.units in
      record {
        units = v.laid.units.units;
        parts = λ k d within.
            part k (get_or m.functions k d) (slice_get-get_or m.functions k d within);
        order = in_order m spots v.laid.functions;
        checks = omega (
          arith,
          ap length slots,
          length-map (checks_of spots) (λ (d : CheckSpot). d.slot),
          recorded,
          v.records,
        );
        slots = slot;
        named = named;
        typed = λ k d within.
            func_there m.types (get_or m.functions k d).ty
            (v.laid.functions k (get_or m.functions k d) (slice_get-get_or m.functions k d within)).typed;
        begins = begins;
        ends = ends;
      }

-- no module begins before the first word
low : (code_words : ℕ) (ms : List Placed) → AreLoaded code_words ms → (k : ℕ) (d : Placed) → k < length ms → FIRST_BASE ≤ (get_or ms k d).base
low code_words ms a zero d within =
    let here = a.first (get_or ms 0 d) (slice_get-get_or ms 0 d within) in omega (arith, here.0)
low code_words ms a (suc k) d within =
    let less : k < length ms = omega (arith, within) in
    let next : k + 1 ≡ suc k = add-one k in
    let there : slice_get ms (k + 1) ≡ Some (get_or ms (suc k) d) =
    ap (slice_get ms) next ∙ slice_get-get_or ms (suc k) d within in
    let follows = a.next k (get_or ms k d) (get_or ms (suc k) d) (slice_get-get_or ms k d less) there in
    omega (arith, low code_words ms a k d less, follows.words)

pub shaped : (code_words : ℕ) (ms : List Placed) → AreLoaded code_words ms → AreShaped ms
shaped code_words ms a = record {
  shaped = λ k d within.
      let m = get_or ms k d in
      let v = a.verified k m (slice_get-get_or ms k d within) in (
        v.2.1.laid.units.code,
        shaped_as m v.0 v.2.0 v.2.1 (low code_words ms a k d within)
            (omega (arith, a.ends k d within, a.size.most)),
      );
  order = a.next;
}
