-- The ends of a direct edge: a slot of its module's branches, and the address of a code word, or that past the last one.
use Rattle.std.proofs.Common.{◌≡◌, ℕ, zero, suc, ◌+◌, ◌*◌, ◌%◌, ◌<◌, ◌≤◌, Bool, ℤ, List, [], ◌∷◌, length, Some, sym, subst, arith}
use Rattle.std.specs.Prelude.{slice_get}
use Rattle.std.specs.List.{Contains, AllByRecursion}
use Rattle.std.proofs.lemmas.Option.{none-some, same_Some, slice_get_within}
use Rattle.std.proofs.lemmas.List.Elements.{All-contains}
use Rattle.cfi_word.specs.declared.sizes.TheConstants.{SLOTS}
use Rattle.cfi_unit.specs.declared.unit.Unit.{Unit as CodeUnit}
use Rattle.cfi_unit.specs.declared.unit.Unit.TheVariants as units
use Rattle.cfi_unit.specs.Unit.{IsUnit, size_of}
use Rattle.cfi_word.specs.declared.limits.TheConstants.{MAX_CODE_WORDS}
use Rattle.cfi_aux.specs.declared.placed.Placed.{Placed}
use Rattle.cfi_aux.specs.declared.placed.PlacedFunction.{PlacedFunction}
use Rattle.cfi_aux.specs.declared.records.Kind.{Kind}
use Rattle.cfi_aux.specs.declared.records.Kind.TheVariants as kinds
use Rattle.cfi_graph.specs.Code.{Stands, entry_of}
use Rattle.cfi_unit.specs.Spots.{place_of}
use Rattle.cfi_graph.specs.Calls.{HasKind, IsFunction}
use Rattle.cfi_graph.specs.Shaped.{IsUnitPlace, IsNamed, IsShaped, AreApart}
use Rattle.cfi_graph.specs.Direct.{IsReturnTarget, GoesTo, DirectEdge}
use Rattle.cfi_graph.proofs.BoundLemmas.{contains_at, stands_within, inside, branch_names}
use Rattle.cfi_graph.proofs.CallLemmas.{imported_function}

-- an address of code: of a code word, or past the last one
pub record IsEnd (address : ℕ) : Type 0 where
  pub whole : address % 4 ≡ 0
  pub within : address ≤ 4 * MAX_CODE_WORDS

-- the branch of a direct edge, and its address
pub record HasEnds (ms : List Placed) (slot address : ℕ) : Type 0 where
  pub owner : Placed
  pub placed : Contains ms owner
  pub number : ℕ
  pub below : number < length owner.branches
  pub is : slot ≡ owner.slot_base + number
  pub low : slot < SLOTS
  pub end : IsEnd address

-- a member of a list has what all have
pub by_member : (P : CodeUnit → Type 0) (code : List CodeUnit) (k : ℕ) (unit : CodeUnit) → AllByRecursion P code
    → slice_get code k ≡ Some unit → P unit
by_member P [] k unit all is = absurd (none-some unit is)
by_member P (first ∷ code) zero unit all is = subst P (same_Some first unit is) all.0
by_member P (first ∷ code) (suc k) unit all is = by_member P code k unit all.1 is

-- a check's slot is low
pub slot_low : (m : Placed) (at : ℕ) (linked : Bool) (rs1 : ℕ) (imm : ℤ) (slot : ℕ)
    → Stands m at (units.Check linked rs1 imm slot) → slot < SLOTS
slot_low m at linked rs1 imm slot s =
    let fits : IsUnit (units.Check linked rs1 imm slot) =
    by_member IsUnit s.code s.number (units.Check linked rs1 imm slot) s.units.fit s.is in
    fits.2

word_end : (word : ℕ) → word ≤ MAX_CODE_WORDS → IsEnd (4 * word)
word_end word within = record { whole = omega arith; within = omega (arith, within) }

module _ (ms : List Placed) (apart : AreApart ms) where
  is_shaped : (m : Placed) → Contains ms m → IsShaped m
  is_shaped m placed = All-contains IsShaped ms m apart.shaped placed

  entry_end : (n : Placed) (f : PlacedFunction) (address : ℕ) → IsFunction ms n f → address ≡ entry_of n f → IsEnd address
  entry_end n f address is entry =
      let shape = is_shaped n is.placed in
      let ends = (inside n shape f is.function).ends in
      let last = shape.1.ends in
      subst IsEnd (sym entry) (word_end (n.base + f.first) (omega (arith, ends, last)))

  return_end : (m : Placed) (at address : ℕ) → IsReturnTarget ms m at address → IsEnd address
  return_end m at address r =
      let call = r.returns in
      let ends = stands_within call.caller call.at call.unit call.stands in
      let last = (is_shaped call.caller call.placed).1.ends in
      subst IsEnd (sym call.after)
      (word_end (call.caller.base + (call.at + size_of call.unit)) (omega (arith, ends, last)))

  switch_end : (m : Placed) → Contains ms m → (slot : ℕ) (entries : List ℕ) → HasKind m slot (kinds.Switch entries)
      → (entry address : ℕ) → Contains entries entry → address ≡ 4 * m.base + entry → IsEnd address
  switch_end m placed slot entries has entry address listed is =
      let shape = is_shaped m placed in
      let named : IsNamed shape.0 (length m.types) (kinds.Switch entries) =
      All-contains (IsNamed shape.0 (length m.types)) m.branches (kinds.Switch entries) shape.1.named
      (contains_at m.branches has.0 (kinds.Switch entries) has.2) in
      let place : IsUnitPlace shape.0 entry = All-contains (IsUnitPlace shape.0) entries entry named listed in
      let low : 4 * m.base + entry < 4 * MAX_CODE_WORDS =
      All-contains (λ e. 4 * m.base + e < 4 * MAX_CODE_WORDS) entries entry
      (branch_names m shape slot (kinds.Switch entries) has) listed in
      let at : entry ≡ 4 * place_of shape.0 place.0 = place.2 in
      let whole : address ≡ 4 * (m.base + place_of shape.0 place.0) = omega (arith, is, at) in
      subst IsEnd (sym whole) (word_end (m.base + place_of shape.0 place.0) (omega (arith, low, at)))

  goes_end : (m : Placed) → Contains ms m → (at slot : ℕ) (kind : Kind) → HasKind m slot kind → (address : ℕ)
      → GoesTo ms m at kind address → IsEnd address
  goes_end m placed at slot (kinds.Call node) has address goes = entry_end goes.owner goes.function address goes.is goes.entry
  goes_end m placed at slot (kinds.Tail node) has address goes = entry_end goes.owner goes.function address goes.is goes.entry
  goes_end m placed at slot kinds.Return has address goes = return_end m at address goes
  goes_end m placed at slot (kinds.Switch entries) has address (entry, listed, is) =
      switch_end m placed slot entries has entry address listed is
  goes_end m placed at slot (kinds.Import name cell) has address goes =
      entry_end goes.owner goes.function address (imported_function ms name goes.owner goes.function goes.is) goes.entry

  pub has_ends : (slot address : ℕ) → DirectEdge ms slot address → HasEnds ms slot address
  has_ends slot address e = record {
    owner = e.owner;
    placed = e.placed;
    number = e.has.0;
    below = slice_get_within e.owner.branches e.has.0 e.kind e.has.2;
    is = e.has.1;
    low = slot_low e.owner e.at e.link e.rs1 e.imm slot e.stands;
    end = goes_end e.owner e.placed e.at slot e.kind e.has address e.goes;
  }
