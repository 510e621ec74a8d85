-- Where the branches of a verified module may lead: to units that lie in functions.
use Rattle.std.proofs.Common.{◌≡◌, ℕ, ◌+◌, ◌*◌, ◌<◌, Bool, true, false, ℤ, List, length, get_or, Option, Some, None, refl, ap, sym, subst, ◌∙◌, arith}
use Rattle.std.specs.List.{Contains, slice_get}
use Rattle.std.proofs.lemmas.List.Elements.{All-contains}
use Rattle.std.proofs.lemmas.Option.{slice_get-get_or, slice_get_within, get_or_from_slice_get}
use Rattle.cfi_unit.specs.declared.unit.Unit.{Unit as CodeUnit}
use Rattle.cfi_unit.specs.declared.unit.Unit.TheVariants as units
use Rattle.cfi_unit.specs.Unit.{size_of}
use Rattle.cfi_unit.specs.declared.spot.Spot.{Spot}
use Rattle.cfi_unit.specs.Spots.{place_of}
use Rattle.cfi_unit.proofs.CodeLemmas.{UnitCode-one}
use Rattle.cfi_aux.specs.declared.placed.Placed.{Placed}
use Rattle.cfi_aux.specs.declared.placed.PlacedFunction.{PlacedFunction}
use Rattle.cfi_aux.specs.declared.records.Kind.{Kind}
use Rattle.cfi_aux.specs.declared.records.Kind.TheVariants as kinds
use Rattle.cfi_graph.specs.Code.{Stands}
use Rattle.cfi_graph.specs.Calls.{HasKind, IsCall}
use Rattle.cfi_verify.specs.declared.checks.CheckSpot.{CheckSpot}
use Rattle.cfi_verify.specs.Spots.{check_in, checks_of}
use Rattle.cfi_verify.specs.Branches.{IsKindOf, IsRecordOf, IsEntry, AreEntriesIn}
use Rattle.cfi_verify.specs.Fault.{IsVerifiedAs}
use Rattle.cfi_modules.proofs.EndLemmas.{check_there, is_call, place_next}
use Rattle.cfi_modules.proofs.BusyLemmas.{BeginsBusy, home_busy, call_busy}

abbrev none : CheckSpot
none = record { at = 0; link = false; slot = 0 }

abbrev check_spot : (at : ℕ) (link : Bool) (slot : ℕ) → CheckSpot
check_spot at link slot = record { at = at; link = link; slot = slot }

-- a check whose record is a call links
links : (m : Placed) (link : Bool) (node : ℕ) → IsKindOf m.types link (kinds.Call node) → link ≡ true
links m true node fits = refl
links m false node fits = absurd fits

module _ (m : Placed) (loaded : List Placed) (spots : List Spot) (v : IsVerifiedAs m loaded spots) where
  -- the record of a check in the code is the one of its slot
  record_of : (k : ℕ) (link : Bool) (rs1 : ℕ) (imm : ℤ) (slot node : ℕ)
      → slice_get v.laid.units.code k ≡ Some (units.Check link rs1 imm slot) → HasKind m slot (kinds.Call node)
      → link ≡ true
  record_of k link rs1 imm slot node is has =
      let code = v.laid.units.code in
      let unit = units.Check link rs1 imm slot in
      let within = slice_get_within code k unit is in
      let c = check_spot (0 + place_of code k) link slot in
      let here = ap (check_in (0 + place_of code k)) (get_or_from_slice_get code k unit unit is) in
      let n = check_there 0 code k unit c within here in
      let there : slice_get (checks_of spots) n.0 ≡ Some c =
      ap (λ (xs : List Spot). slice_get (checks_of xs) n.0) v.laid.units.places ∙ n.1 in
      let number : n.0 ≡ has.0 = omega (arith, v.laid.slots n.0 c there, has.1) in
      let fits : IsRecordOf m.types link (slice_get m.branches n.0) = v.kinds n.0 c there in
      links m link node
      (subst (IsRecordOf m.types link) (ap (slice_get m.branches) number ∙ has.2) fits)

  -- a call is one that links
  call_links : (k at : ℕ) (unit : CodeUnit) (n : Placed) (f : PlacedFunction)
      → slice_get v.laid.units.code k ≡ Some unit → IsCall m at unit n f → is_call unit ≡ true
  call_links k at (units.Jump true off) n f is call = refl
  call_links k at (units.Jump false off) n f is call = absurd call
  call_links k at (units.Check link rs1 imm slot) n f is call =
      record_of k link rs1 imm slot call.0 is call.1
  call_links k at (units.Plain insn) n f is call = absurd call
  call_links k at (units.Load kind rd rs1 imm) n f is call = absurd call
  call_links k at (units.Store kind rs1 rs2 imm) n f is call = absurd call
  call_links k at (units.Branch cond rs1 rs2 off) n f is call = absurd call
  call_links k at units.Service n f is call = absurd call

  -- what a call comes back to is a unit of its function
  pub returns_busy : (at : ℕ) (unit : CodeUnit) (n : Placed) (f : PlacedFunction) → Stands m at unit
      → IsCall m at unit n f → BeginsBusy v.laid.units.code (at + size_of unit)
  returns_busy at unit n f stands call =
      let code = v.laid.units.code in
      let k = stands.number in
      let same : stands.code ≡ code = UnitCode-one m.words stands.code code stands.units v.laid.units.units in
      let is : slice_get code k ≡ Some unit = ap (λ (us : List CodeUnit). slice_get us k) (sym same) ∙ stands.is in
      let within = slice_get_within code k unit is in
      let here : get_or code k unit ≡ unit = get_or_from_slice_get code k unit unit is in (
        k + 1,
        omega (
          arith,
          stands.place,
          ap (λ (us : List CodeUnit). place_of us k) same,
          place_next code k unit within,
          ap size_of here,
        ),
        call_busy m loaded spots v k unit within (ap is_call here ∙ call_links k at unit n f is call),
      )

  -- an entry of a switch is a unit of its function
  pub switch_busy : (slot entry : ℕ) (entries : List ℕ) → HasKind m slot (kinds.Switch entries)
      → Contains entries entry → (to : ℕ) × (entry ≡ 4 * to) × BeginsBusy v.laid.units.code to
  switch_busy slot entry entries has there =
      let c = get_or (checks_of spots) has.0 none in
      let is = slice_get-get_or (checks_of spots) has.0 none
      (omega (arith, v.records, slice_get_within m.branches has.0 (kinds.Switch entries) has.2)) in
      let all = subst (AreEntriesIn m spots c.at) has.2 (v.switches has.0 c is) in
      let one = All-contains (IsEntry m spots c.at) entries entry all there in
      let home = one.2 in
      (one.0, one.1, home_busy m loaded spots v home.home home.has one.0 home.lies home.unit)

  -- there is a record, so there are as many branches
  recorded : (number : ℕ) (link : Bool) → IsRecordOf m.types link (slice_get m.branches number)
      → number < length m.branches
  recorded number link fits = within_of (slice_get m.branches number) refl fits
    where
      within_of : (found : Option Kind) → slice_get m.branches number ≡ found → IsRecordOf m.types link found
          → number < length m.branches
      within_of None is fits = absurd fits
      within_of (Some kind) is fits = slice_get_within m.branches number kind is

  -- the slot of a check is one of the module's
  pub slot_within : (k : ℕ) (link : Bool) (rs1 : ℕ) (imm : ℤ) (slot : ℕ)
      → slice_get v.laid.units.code k ≡ Some (units.Check link rs1 imm slot)
      → slot < m.slot_base + length m.branches
  slot_within k link rs1 imm slot is =
      let code = v.laid.units.code in
      let unit = units.Check link rs1 imm slot in
      let c = check_spot (0 + place_of code k) link slot in
      let here = ap (check_in (0 + place_of code k)) (get_or_from_slice_get code k unit unit is) in
      let n = check_there 0 code k unit c (slice_get_within code k unit is) here in
      let there : slice_get (checks_of spots) n.0 ≡ Some c =
      ap (λ (xs : List Spot). slice_get (checks_of xs) n.0) v.laid.units.places ∙ n.1 in
      omega (arith, v.laid.slots n.0 c there, recorded n.0 link (v.kinds n.0 c there))
