-- The slots of code are those of its checks.
use Rattle.std.proofs.Common.{◌≡◌, ℕ, ◌+◌, List, [], ◌∷◌, map, refl, ap, sym, ◌∙◌}
use Rattle.std.specs.List.{cons_option}
use Rattle.cfi_unit.specs.declared.unit.Unit.{Unit as CodeUnit}
use Rattle.cfi_unit.specs.declared.unit.Unit.TheVariants as units
use Rattle.cfi_unit.specs.Unit.{size_of}
use Rattle.cfi_unit.specs.Spots.{spots_of, AreSpots}
use Rattle.cfi_graph.specs.Shaped.{slot_of, slots_of}
use Rattle.cfi_unit.specs.declared.spot.Spot.{Spot}
use Rattle.cfi_verify.specs.declared.checks.CheckSpot.{CheckSpot}
use Rattle.cfi_verify.specs.Spots.{check_in, checks_of}

slots_cons : (at : ℕ) (unit : CodeUnit) (slots : List ℕ) (rest : List CheckSpot) →
    slots ≡ map (λ (c : CheckSpot). c.slot) rest →
    cons_option (slot_of unit) slots ≡ map (λ (c : CheckSpot). c.slot) (cons_option (check_in at unit) rest)
slots_cons at (units.Check link rs1 imm slot) slots rest same = ap (λ (xs : List ℕ). slot ∷ xs) same
slots_cons at (units.Plain insn) slots rest same = same
slots_cons at (units.Load kind rd rs1 imm) slots rest same = same
slots_cons at (units.Store kind rs1 rs2 imm) slots rest same = same
slots_cons at (units.Branch cond rs1 rs2 off) slots rest same = same
slots_cons at (units.Jump link off) slots rest same = same
slots_cons at units.Service slots rest same = same

slots_from : (a : ℕ) (code : List CodeUnit) →
    slots_of code ≡ map (λ (c : CheckSpot). c.slot) (checks_of (spots_of a code))
slots_from a [] = refl
slots_from a (u ∷ us) =
    slots_cons a u (slots_of us) (checks_of (spots_of (a + size_of u) us)) (slots_from (a + size_of u) us)

-- the slots of the code are those of the checks
pub slots_are : (words : List ℕ) (spots : List Spot) (are : AreSpots words spots) →
    slots_of are.code ≡ map (λ (c : CheckSpot). c.slot) (checks_of spots)
slots_are words spots are =
    slots_from 0 are.code
    ∙ ap (λ (xs : List Spot). map (λ (c : CheckSpot). c.slot) (checks_of xs)) (sym are.places)
