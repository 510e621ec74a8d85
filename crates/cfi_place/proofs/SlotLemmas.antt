-- Units that are read from a place on, and the slots of their checks.
use Rattle.std.proofs.Common.{◌≡◌, ℕ, ◌+◌, ◌≤◌, List, [], ◌∷◌, ◌++◌, length, sym, ap, ◌∙◌, arith}
use Rattle.cfi_unit.specs.declared.unit.Unit.{Unit as CodeUnit}
use Rattle.cfi_unit.specs.declared.unit.Unit.TheVariants as units
use Rattle.cfi_unit.specs.Unit.{size_of}
use Rattle.cfi_unit.specs.Code.{BeginsAt}
use Rattle.cfi_place.specs.Slots.{ReadFrom, check_at, checks_from, with_slot, with_slots, HasSlots}

with_slots-append : (slot : ℕ) (front rest words : List ℕ)
    → with_slots slot (front ++ rest) words ≡ with_slots (slot + length front) rest (with_slots slot front words)
with_slots-append slot [] rest words =
    let same : slot + 0 ≡ slot = omega arith in
    ap (λ (n : ℕ). with_slots n rest words) (sym same)
with_slots-append slot (at ∷ front) rest words =
    let next = with_slots-append (slot + 1) front rest (with_slot at slot words) in
    let same : slot + 1 + length front ≡ slot + length (at ∷ front) = omega arith in
    next ∙ ap (λ (n : ℕ). with_slots n rest (with_slots (slot + 1) front (with_slot at slot words))) same

-- what was read up to a place, with the slots given so far, and whatever units are read from there on
pub record Reads (source : List ℕ) (first : ℕ) (start : List ℕ) (at slot : ℕ) (words : List ℕ) : Type 0 where
  pub within : at ≤ length source
  pub small : slot ≤ first + at
  pub joins : (code : List CodeUnit) → ReadFrom source at code
      → (all : List CodeUnit) × ReadFrom source 0 all
      × (with_slots first (checks_from 0 all) start ≡ with_slots slot (checks_from at code) words)

length-check_at : (at : ℕ) (unit : CodeUnit) → length (check_at at unit) ≤ size_of unit
length-check_at at (units.Plain insn) = omega arith
length-check_at at (units.Load kind rd rs1 imm) = omega arith
length-check_at at (units.Store kind rs1 rs2 imm) = omega arith
length-check_at at (units.Branch cond rs1 rs2 off) = omega arith
length-check_at at (units.Jump link off) = omega arith
length-check_at at (units.Check link rs1 imm slot) = omega arith
length-check_at at units.Service = omega arith

pub reads_more : (source : List ℕ) (first : ℕ) (start : List ℕ) (at slot : ℕ) (words : List ℕ) (unit : CodeUnit)
    → Reads source first start at slot words → BeginsAt source at unit → at + size_of unit ≤ length source
    → Reads source first start (at + size_of unit) (slot + length (check_at at unit))
    (with_slots slot (check_at at unit) words)
reads_more source first start at slot words unit before begins within = record {
  within = within;
  small = omega (arith, before.small, length-check_at at unit);
  joins = λ code read.
      let old = before.joins (unit ∷ code) (begins, read) in
      (old.0, old.1, old.2 ∙ with_slots-append slot (check_at at unit) (checks_from (at + size_of unit) code) words);
}

pub reads_all : (source : List ℕ) (first : ℕ) (start : List ℕ) (at slot : ℕ) (words : List ℕ)
    → Reads source first start at slot words → ((unit : CodeUnit) → BeginsAt source at unit → ⊥)
    → HasSlots source first start words
reads_all source first start at slot words before none =
    let last = before.joins [] none in
    (last.0, last.1, sym last.2)
