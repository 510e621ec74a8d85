-- Each row of the verifier holds of an item, or does not.
use Rattle.std.proofs.Common.{◌≡◌, ◌⊎◌, ℕ, ◌+◌, ◌*◌, ◌<◌, ◌≤◌, ℤ, pos, negsuc, Bool, true, false, List, ◌∷◌, length, Option, Some, None, sym, subst, inl, inr}
use Rattle.std.specs.List.{Contains, slice_get}
use Rattle.rv_insn.specs.declared.insn.Insn.{Insn}
use Rattle.rv_insn.specs.declared.insn.Insn.TheVariants as insns
use Rattle.rv_insn.specs.declared.insn.ImmOp.TheVariants.{Addi}
use Rattle.cfi_type_table.specs.Node.{Node}
use Rattle.cfi_aux.specs.Extent.{end_of, LiesIn}
use Rattle.cfi_type_table.specs.Kind.{is_callable}
use Rattle.cfi_aux.specs.Records.{AllEntries, AllEntriesIn}
use Rattle.cfi_aux.specs.declared.placed.Placed.{Placed}
use Rattle.cfi_aux.specs.declared.placed.PlacedFunction.{PlacedFunction}
use Rattle.cfi_aux.specs.declared.records.Kind.{Kind}
use Rattle.cfi_aux.specs.declared.records.Kind.TheVariants.{Call, Tail, Return, Switch, Import}
use Rattle.cfi_unit.specs.declared.unit.Unit.{Unit as CodeUnit}
use Rattle.cfi_unit.specs.declared.unit.Unit.TheVariants as units
use Rattle.cfi_unit.specs.declared.spot.Spot.{Spot}
use Rattle.cfi_unit.specs.Spots.{BeginsUnit}
use Rattle.cfi_verify.specs.declared.checks.CheckSpot.{CheckSpot}
use Rattle.cfi_verify.specs.Functions.{IsIdle, FunctionFits, FitsBehind, IsIdleBehind, EndsWell, may_be_last, end_before}
use Rattle.cfi_verify.specs.Target.{LeadsTo, IsAtHome, LeadsHome, LeadsToEntry, MayLead, LeadsWell, entries_of}
use Rattle.cfi_verify.specs.Branches.{NamesSlot, IsKindOf, IsRecordOf, KindFits, IsEntry, EntriesFit}
use Rattle.cfi_verify_law.proofs.DecideLemmas.{Decided, by, both, three, four, either, when, less, at_most, equal, equal_signed, is_true, all_have, all_in, some_in}

-- ---- functions

abbrev idle_unit : CodeUnit
idle_unit = units.Plain (insns.OpImm Addi 0 0 (pos 0))

idle_insn : (insn : Insn) → Decided (units.Plain insn ≡ idle_unit)
idle_insn (insns.OpImm Addi rd rs1 imm) =
    by
    (λ (parts : (rd ≡ 0) × (rs1 ≡ 0) × (imm ≡ pos 0)).
    let a = parts.0 in
    let b = parts.1 in
    let c = parts.2 in
    cc)
    (λ (same : units.Plain (insns.OpImm Addi rd rs1 imm) ≡ idle_unit). (cc, cc, cc))
    (three (equal rd 0) (equal rs1 0) (equal_signed imm (pos 0)))
idle_insn insn = inr (λ same. absurd (cc))

idle_at : (unit : CodeUnit) → Decided (unit ≡ idle_unit)
idle_at (units.Plain insn) = idle_insn insn
idle_at unit = inr (λ same. absurd (cc))

idle : (spots : List Spot) (from to : ℕ) → Decided (IsIdle spots from to)
idle spots from to =
    all_in (λ (spot : Spot). from ≤ spot.at → spot.at < to → spot.unit ≡ idle_unit)
    (λ spot. when (at_most from spot.at) (when (less spot.at to) (idle_at spot.unit))) spots

begins_unit : (spots : List Spot) (at : ℕ) → Decided (BeginsUnit spots at)
begins_unit spots at = some_in (λ (spot : Spot). spot.at ≡ at) (λ spot. equal spot.at at) spots

lies : (f : PlacedFunction) (at : ℕ) → Decided (LiesIn f at)
lies f at = both (at_most f.first at) (less at (end_of f))

-- what a function's row asks of its words, and of units and its type
abbrev Extends : (m : Placed) (before : ℕ) (f : PlacedFunction) → Type 0
Extends m before f = (0 < f.count) × (before ≤ f.first) × (end_of f ≤ length m.words)

abbrev Bounded : (m : Placed) (spots : List Spot) (before : ℕ) (f : PlacedFunction) → Type 0
Bounded m spots before f =
    BeginsUnit spots f.first × ((end_of f ≡ length m.words) ⊎ BeginsUnit spots (end_of f))
    × (is_callable m.types f.ty ≡ true) × IsIdle spots before f.first

fits : (m : Placed) (spots : List Spot) (before : ℕ) (f : PlacedFunction) → Decided (FunctionFits m spots before f)
fits m spots before f =
    by
    (λ (p : Extends m before f × Bounded m spots before f).
    record { some = p.0.0; order = p.0.1; within = p.0.2; begins = p.1.0; ends = p.1.1; typed = p.1.2; idle = p.1.3 })
    (λ (r : FunctionFits m spots before f). ((r.some, r.order, r.within), (r.begins, r.ends, r.typed, r.idle)))
    (both (three (less 0 f.count) (at_most before f.first) (at_most (end_of f) (length m.words)))
    (four (begins_unit spots f.first)
    (either (equal (end_of f) (length m.words)) (begins_unit spots (end_of f)))
    (is_true (is_callable m.types f.ty)) (idle spots before f.first)))

pub fits_behind : (m : Placed) (spots : List Spot) (number : ℕ) (f : PlacedFunction) →
    Decided (FitsBehind m spots number f)
fits_behind m spots number f = fits m spots (end_before m.functions number) f

pub idle_behind : (m : Placed) (spots : List Spot) → Decided (IsIdleBehind m spots)
idle_behind m spots = idle spots (end_before m.functions (length m.functions)) (length m.words)

-- what the last unit of a function is
abbrev Ending : (spots : List Spot) (f : PlacedFunction) (spot : Spot) → Type 0
Ending spots f spot =
    LiesIn f spot.at × ((other : Spot) → Contains spots other → LiesIn f other.at → other.at ≤ spot.at)
    × (may_be_last spot.unit ≡ true)

pub ends_well : (spots : List Spot) (number : ℕ) (f : PlacedFunction) → Decided (EndsWell spots number f)
ends_well spots number f =
    by
    (λ (p : (spot : Spot) × Contains spots spot × Ending spots f spot).
    (p.0, record { has = p.1; lies = p.2.0; last = p.2.1 }, p.2.2))
    (λ (r : EndsWell spots number f). (r.0, r.1.has, (r.1.lies, r.1.last, r.2)))
    (some_in (Ending spots f)
    (λ spot.
    three (lies f spot.at)
    (all_in (λ (other : Spot). LiesIn f other.at → other.at ≤ spot.at)
    (λ other. when (lies f other.at) (at_most other.at spot.at)) spots)
    (is_true (may_be_last spot.unit)))
    spots)

-- ---- places

-- two words lie in one function
abbrev AreTogether : (functions : List PlacedFunction) (at to : ℕ) → Type 0
AreTogether functions at to = (home : PlacedFunction) × Contains functions home × (LiesIn home at × LiesIn home to)

at_home : (functions : List PlacedFunction) (spots : List Spot) (at to : ℕ) →
    Decided (IsAtHome functions spots at to)
at_home functions spots at to =
    by
    (λ (p : AreTogether functions at to × BeginsUnit spots to).
    record { home = p.0.0; has = p.0.1; from = p.0.2.0; lies = p.0.2.1; unit = p.1 })
    (λ (r : IsAtHome functions spots at to). ((r.home, r.has, (r.from, r.lies)), r.unit))
    (both
    (some_in (λ (home : PlacedFunction). LiesIn home at × LiesIn home to)
    (λ home. both (lies home at) (lies home to)) functions)
    (begins_unit spots to))

-- some unit of the same function has it
some_home : (P : ℕ → Type 0) → ((to : ℕ) → Decided (P to)) → (functions : List PlacedFunction) (spots : List Spot)
    (at : ℕ) → Decided ((to : ℕ) × P to × IsAtHome functions spots at to)
some_home P decided functions spots at =
    by
    (λ (p : (spot : Spot) × Contains spots spot × (P spot.at × IsAtHome functions spots at spot.at)).
    (p.0.at, p.2.0, p.2.1))
    (λ (r : (to : ℕ) × P to × IsAtHome functions spots at to).
    let unit = r.2.unit in
    let same : unit.0.at ≡ r.0 = unit.2 in
    (unit.0, unit.1, subst (λ (k : ℕ). P k × IsAtHome functions spots at k) (sym same) (r.1, r.2)))
    (some_in (λ (spot : Spot). P spot.at × IsAtHome functions spots at spot.at)
    (λ spot. both (decided spot.at) (at_home functions spots at spot.at)) spots)

-- ---- targets

leads_to : (at : ℕ) (off : ℤ) (to : ℕ) → Decided (LeadsTo at off to)
leads_to at (pos n) to = equal (4 * to) (4 * at + n)
leads_to at (negsuc n) to = equal (4 * to + n + 1) (4 * at)

module _ (m : Placed) (loaded : List Placed) (spots : List Spot) where
  leads_home : (at : ℕ) (off : ℤ) → Decided (LeadsHome m spots at off)
  leads_home at off = some_home (LeadsTo at off) (leads_to at off) m.functions spots at

  leads_to_entry : (at : ℕ) (off : ℤ) → Decided (LeadsToEntry m loaded at off)
  leads_to_entry at off =
      by
      (λ (p : (to : ℕ) × Contains (entries_of (m ∷ loaded)) to × LeadsTo (m.base + at) off to). (p.0, p.2, p.1))
      (λ (r : LeadsToEntry m loaded at off). (r.0, r.2, r.1))
      (some_in (LeadsTo (m.base + at) off) (leads_to (m.base + at) off) (entries_of (m ∷ loaded)))

  may_lead : (at : ℕ) (unit : CodeUnit) → Decided (MayLead m loaded spots at unit)
  may_lead at (units.Branch cond rs1 rs2 off) = leads_home at off
  may_lead at (units.Jump true off) = leads_to_entry at off
  may_lead at (units.Jump false off) = either (leads_home at off) (leads_to_entry at off)
  may_lead at unit = inl tt

  pub leads_well : (number : ℕ) (spot : Spot) → Decided (LeadsWell m loaded spots number spot)
  leads_well number spot = may_lead spot.at spot.unit

-- ---- checks

pub names_slot : (m : Placed) (number : ℕ) (check : CheckSpot) → Decided (NamesSlot m number check)
names_slot m number check = equal check.slot (m.slot_base + number)

kind_of : (types : List Node) (link : Bool) (kind : Kind) → Decided (IsKindOf types link kind)
kind_of types true (Call node) = is_true (is_callable types node)
kind_of types true kind = inr (λ none. none)
kind_of types false (Call node) = inr (λ none. none)
kind_of types false (Tail node) = is_true (is_callable types node)
kind_of types false Return = inl tt
kind_of types false (Switch entries) = inl tt
kind_of types false (Import name cell) = inl tt

record_of : (types : List Node) (link : Bool) (kind : Option Kind) → Decided (IsRecordOf types link kind)
record_of types link None = inr (λ none. none)
record_of types link (Some kind) = kind_of types link kind

pub kind_fits : (m : Placed) (number : ℕ) (check : CheckSpot) → Decided (KindFits m number check)
kind_fits m number check = record_of m.types check.link (slice_get m.branches number)

is_entry : (m : Placed) (spots : List Spot) (at offset : ℕ) → Decided (IsEntry m spots at offset)
is_entry m spots at offset = some_home (λ to. offset ≡ 4 * to) (λ to. equal offset (4 * to)) m.functions spots at

entries : (P : ℕ → Type 0) → ((offset : ℕ) → Decided (P offset)) → (kind : Kind) → Decided (AllEntries P kind)
entries P decided (Switch offsets) = all_have P decided offsets
entries P decided kind = inl tt

entries_in : (P : ℕ → Type 0) → ((offset : ℕ) → Decided (P offset)) → (kind : Option Kind) →
    Decided (AllEntriesIn P kind)
entries_in P decided None = inl tt
entries_in P decided (Some kind) = entries P decided kind

pub entries_fit : (m : Placed) (spots : List Spot) (number : ℕ) (check : CheckSpot) →
    Decided (EntriesFit m spots number check)
entries_fit m spots number check =
    entries_in (IsEntry m spots check.at) (is_entry m spots check.at) (slice_get m.branches number)
