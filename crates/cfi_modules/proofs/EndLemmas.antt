-- No module that verifies ends in a call: what stands last is a jump or a check that does not link, or idle.
use Rattle.std.proofs.Common.{◌≡◌, ℕ, zero, suc, ◌+◌, ◌-◌, ◌<◌, ◌≤◌, Bool, true, false, List, [], ◌∷◌, length, take, get_or, Option, Some, None, ap, sym, ◌∙◌, ⊎_elim, arith, length-append}
use Rattle.std.specs.List.{Contains, flat_map, slice_get, cons_option}
use Rattle.std.proofs.lemmas.Bool.{cases_lt, false≢true}
use Rattle.std.proofs.lemmas.List.{get_or_default}
use Rattle.std.proofs.lemmas.Option.{slice_get-get_or}
use Rattle.cfi_unit.specs.declared.unit.Unit.{Unit as CodeUnit}
use Rattle.cfi_unit.specs.declared.unit.Unit.TheVariants as units
use Rattle.cfi_unit.specs.Unit.{words_of, size_of}
use Rattle.cfi_unit.proofs.CodeLemmas.{length-words_of}
use Rattle.cfi_unit.proofs.UnitLemmas.{size_pos}
use Rattle.cfi_aux.specs.declared.placed.Placed.{Placed}
use Rattle.cfi_aux.specs.declared.placed.PlacedFunction.{PlacedFunction}
use Rattle.cfi_unit.specs.Spots.{place_of, spots_of, BeginsUnit}
use Rattle.cfi_unit.proofs.SpotLemmas.{length-spots_of, place_number, last_place, place_mono}
use Rattle.cfi_unit.specs.declared.spot.Spot.{Spot}
use Rattle.cfi_verify.specs.declared.checks.CheckSpot.{CheckSpot}
use Rattle.cfi_verify.specs.Spots.{check_in, checks_of}
use Rattle.cfi_verify.specs.Functions.{end_before, may_be_last, IsLastIn}
use Rattle.cfi_aux.specs.Extent.{end_of}
use Rattle.cfi_verify.specs.Fault.{IsVerifiedAs}
use Rattle.cfi_verify.proofs.FunctionLemmas.{end_before-next}

-- ---- units by their numbers

abbrev pub spot_of : (at : ℕ) → CodeUnit → Spot
spot_of at unit = record { at = at; unit = unit }

-- the unit of a number stands at its place
spot_at : (a : ℕ) (code : List CodeUnit) (k : ℕ) (d : Spot) (u : CodeUnit) → k < length code
    → get_or (spots_of a code) k d ≡ spot_of (a + place_of code k) (get_or code k u)
spot_at a [] k d u within = absurd (omega (arith, within))
spot_at a (v ∷ us) zero d u within =
    let same : a ≡ a + place_of (v ∷ us) zero = omega arith in ap (λ (at : ℕ). spot_of at v) same
spot_at a (v ∷ us) (suc k) d u within =
    let same : a + size_of v + place_of us k ≡ a + place_of (v ∷ us) (suc k) =
    omega (arith, length-append (words_of v) (flat_map words_of (take k us)), length-words_of v) in
    spot_at (a + size_of v) us k d u (omega (arith, within)) ∙ ap (λ (at : ℕ). spot_of at (get_or us k u)) same

-- the next unit stands behind
pub place_next : (code : List CodeUnit) (k : ℕ) (u : CodeUnit) → k < length code
    → place_of code (k + 1) ≡ place_of code k + size_of (get_or code k u)
place_next [] k u within = absurd (omega (arith, within))
place_next (v ∷ us) zero u within = length-append (words_of v) [] ∙ omega (arith, length-words_of v)
place_next (v ∷ us) (suc k) u within =
    let more : suc k + 1 ≡ suc (k + 1) = omega arith in
    let next : place_of us (k + 1) ≡ place_of us k + size_of (get_or us k u) = place_next us k u (omega (arith, within)) in
    let step : place_of (v ∷ us) (suc (k + 1)) ≡ place_of (v ∷ us) (suc k) + size_of (get_or us k u) =
    omega (
      arith,
      next,
      length-append (words_of v) (flat_map words_of (take k us)),
      length-append (words_of v) (flat_map words_of (take (k + 1) us)),
    ) in
    ap (place_of (v ∷ us)) more ∙ step

-- a check of the code is among the checks
cons_none : (found : Option CheckSpot) (rest : List CheckSpot) (k : ℕ) (c : CheckSpot) → slice_get rest k ≡ Some c
    → (n : ℕ) × (slice_get (cons_option found rest) n ≡ Some c)
cons_none None rest k c is = (k, is)
cons_none (Some first) rest k c is = (suc k, is)

cons_some : (found : Option CheckSpot) (rest : List CheckSpot) (c : CheckSpot) → found ≡ Some c
    → slice_get (cons_option found rest) 0 ≡ Some c
cons_some None rest c is = absurd (cc)
cons_some (Some first) rest c is = is

pub check_there : (a : ℕ) (code : List CodeUnit) (k : ℕ) (u : CodeUnit) (c : CheckSpot) → k < length code
    → check_in (a + place_of code k) (get_or code k u) ≡ Some c
    → (n : ℕ) × (slice_get (checks_of (spots_of a code)) n ≡ Some c)
check_there a [] k u c within is = absurd (omega (arith, within))
check_there a (v ∷ us) zero u c within is =
    let same : a + place_of (v ∷ us) zero ≡ a = omega arith in (
      0,
      cons_some (check_in a v) (checks_of (spots_of (a + size_of v) us)) c
          (ap (λ (at : ℕ). check_in at v) (sym same) ∙ is),
    )
check_there a (v ∷ us) (suc k) u c within is =
    let same : a + size_of v + place_of us k ≡ a + place_of (v ∷ us) (suc k) =
    omega (arith, length-append (words_of v) (flat_map words_of (take k us)), length-words_of v) in
    let rest = check_there (a + size_of v) us k u c (omega (arith, within))
    (ap (λ (at : ℕ). check_in at (get_or us k u)) same ∙ is) in
    cons_none (check_in a v) (checks_of (spots_of (a + size_of v) us)) rest.0 c rest.1

-- ---- the last unit

-- an idle unit, and a unit that may end a function, are no calls
abbrev pub is_call : CodeUnit → Bool
is_call (units.Jump link off) = link
is_call (units.Check link rs1 imm slot) = link
is_call unit = false

pub call_goes_on : (unit : CodeUnit) → is_call unit ≡ true → may_be_last unit ≡ true → ⊥
call_goes_on (units.Jump true off) call last = false≢true last
call_goes_on (units.Jump false off) call last = false≢true call
call_goes_on (units.Check true rs1 imm slot) call last = false≢true last
call_goes_on (units.Check false rs1 imm slot) call last = false≢true call
call_goes_on (units.Plain insn) call last = false≢true call
call_goes_on (units.Load kind rd rs1 imm) call last = false≢true call
call_goes_on (units.Store kind rs1 rs2 imm) call last = false≢true call
call_goes_on (units.Branch cond rs1 rs2 off) call last = false≢true call
call_goes_on units.Service call last = false≢true call

abbrev pub none : PlacedFunction
none = record { first = 0; count = 0; ty = 0; taken = false; global = false; name = [] }

module _ (m : Placed) (loaded : List Placed) (spots : List Spot) (v : IsVerifiedAs m loaded spots) where
  abbrev code : List CodeUnit
  code = v.laid.units.code

  -- the unit of a number is among the units with their places, and each of these has a number
  unit_here : (k : ℕ) (d : Spot) (u : CodeUnit) → k < length code
      → get_or spots k d ≡ spot_of (place_of code k) (get_or code k u)
  unit_here k d u within =
      let same : 0 + place_of code k ≡ place_of code k = omega arith in
      ap (λ (xs : List Spot). get_or xs k d) v.laid.units.places ∙ spot_at 0 code k d u within
      ∙ ap (λ (at : ℕ). spot_of at (get_or code k u)) same

  pub has : (k : ℕ) (u : CodeUnit) → k < length code → Contains spots (spot_of (place_of code k) (get_or code k u))
  has k u within = (
    k,
    omega (arith, within, ap length v.laid.units.places, length-spots_of 0 code),
    unit_here k (spot_of (place_of code k) (get_or code k u)) u within,
  )

  pub number_of : (t : Spot) → Contains spots t
      → (k : ℕ) × (k < length code) × (t ≡ spot_of (place_of code k) (get_or code k t.unit))
  number_of t there =
      let within : there.0 < length code =
      omega (arith, there.1, ap length v.laid.units.places, length-spots_of 0 code) in
      (there.0, within, sym there.2 ∙ unit_here there.0 t t.unit within)

  -- where the unit of the number i is the last one
  module _ (i : ℕ) (u : CodeUnit) (end : i + 1 ≡ length code) where
    abbrev unit : CodeUnit
    unit = get_or code i u

    abbrev at : ℕ
    at = place_of code i

    ends : length m.words ≡ at + size_of unit
    ends =
        last_place m.words spots v.laid.units ∙ ap (place_of code) (sym end) ∙ place_next code i u (omega (arith, end))

    within : at < length m.words
    within = omega (arith, ends, size_pos unit)

    -- units begin there or before
    begins_before : (from : ℕ) → BeginsUnit spots from → from ≤ at
    begins_before from b =
        let k = place_number m.words spots v.laid.units from b in
        omega (arith, k.2, place_mono code k.0 i (omega (arith, k.1, end)))

    -- the last unit of a function that reaches to it is it
    is_last : (f : PlacedFunction) (s : Spot) → f.first ≤ at → at < end_of f → IsLastIn spots f s → s.unit ≡ unit
    is_last f s from to last =
        let up = last.last (spot_of at unit) (has i u (omega (arith, end))) (from, to) in
        let k = number_of s last.has in
        let place = ap (λ (t : Spot). t.at) k.2 in
        let same : k.0 ≡ i = ⊎_elim
        (λ (less : k.0 < i).
        absurd (omega (
          arith,
          up,
          place,
          place_next code k.0 s.unit k.1,
          size_pos (get_or code k.0 s.unit),
          place_mono code (k.0 + 1) i (omega (arith, less)),
        )))
        (λ (more : i ≤ k.0). omega (arith, more, k.1, end))
        (cases_lt k.0 i) in
        ap (λ (t : Spot). t.unit) k.2 ∙ ap (λ (n : ℕ). get_or code n s.unit) same
        ∙ get_or_default code i s.unit u (omega (arith, end))

    in_function : (k : ℕ) → k + 1 ≡ length m.functions → at < end_before m.functions (length m.functions)
        → may_be_last unit ≡ true
    in_function k all below =
        let f = get_or m.functions k none in
        let is = slice_get-get_or m.functions k none (omega (arith, all)) in
        let end_is = ap (end_before m.functions) (sym all) ∙ end_before-next m.functions k f is in
        let fits = v.laid.functions k f is in
        let well = v.laid.ends k f is in
        ap may_be_last (sym (is_last f well.0 (begins_before f.first fits.begins) (omega (arith, below, end_is)) well.1))
        ∙ well.2

    -- it is no call
    pub no_call : is_call unit ≡ true → ⊥
    no_call call = ⊎_elim
        (λ (below : at < end_before m.functions (length m.functions)).
        ⊎_elim
        (λ (some : 0 < length m.functions).
        call_goes_on unit call (in_function (length m.functions - 1) (omega (arith, some)) below))
        (λ (none_there : length m.functions ≤ 0).
        let nothing : length m.functions ≡ 0 = omega arith in
        absurd (omega (arith, below, ap (end_before m.functions) nothing)))
        (cases_lt 0 (length m.functions)))
        (λ (behind : end_before m.functions (length m.functions) ≤ at).
        let idle = v.laid.idle (spot_of at unit) (has i u (omega (arith, end))) behind within in
        false≢true (sym (ap is_call idle) ∙ call))
        (cases_lt at (end_before m.functions (length m.functions)))

  -- a call is followed by a unit
  pub call_followed : (k : ℕ) (u : CodeUnit) → k < length code → is_call (get_or code k u) ≡ true
      → place_of code k + size_of (get_or code k u) < length m.words
  call_followed k u within call = ⊎_elim
      (λ (less : k + 1 < length code).
      omega (
        arith,
        place_next code k u within,
        place_next code (k + 1) u less,
        size_pos (get_or code (k + 1) u),
        place_mono code (k + 1 + 1) (length code) (omega (arith, less)),
        last_place m.words spots v.laid.units,
      ))
      (λ (more : length code ≤ k + 1). absurd (no_call k u (omega (arith, more, within)) call))
      (cases_lt (k + 1) (length code))

  -- what begins a unit is a word
  pub begins_within : (from : ℕ) → BeginsUnit spots from → from < length m.words
  begins_within from b =
      let k = place_number m.words spots v.laid.units from b in
      let u = b.0.unit in
      omega (
        arith,
        k.2,
        place_next code k.0 u k.1,
        size_pos (get_or code k.0 u),
        place_mono code (k.0 + 1) (length code) (omega (arith, k.1)),
        last_place m.words spots v.laid.units,
      )
