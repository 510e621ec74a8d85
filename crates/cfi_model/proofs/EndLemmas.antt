-- The ends of units.
use Rattle.std.proofs.Common.{◌≡◌, ℕ, ◌+◌, ◌∷◌, [], nat_lt, true, false, cond, refl, ap, arith, rules}
use Rattle.cfi_unit.specs.declared.unit.Unit.{Unit as CodeUnit}
use Rattle.cfi_unit.specs.declared.unit.Unit.TheVariants as units
use Rattle.cfi_model.specs.Effect.{effect}
use Rattle.cfi_model.specs.Service.{Reply}
use Rattle.cfi_model.specs.State.{State}
use Rattle.cfi_model.specs.Raw.{Raw}
use Rattle.cfi_model.specs.Run.{Take, take_one}
use Rattle.cfi_model.specs.Shows.{end_of, ends_before}

-- a unit counts one
pub effect_units : (unit : CodeUnit) (pick : ℕ) (allows : _) (reply : Reply) (s : State)
    → (effect unit pick allows reply s).units ≡ s.units + 1
effect_units (units.Plain insn) pick allows reply s = refl
effect_units (units.Load kind rd rs1 imm) pick allows reply s = refl
effect_units (units.Store kind rs1 rs2 imm) pick allows reply s = refl
effect_units (units.Branch c rs1 rs2 off) pick allows reply s = refl
effect_units (units.Jump link off) pick allows reply s = refl
effect_units (units.Check link rs1 imm slot) pick allows reply s = refl
effect_units units.Service pick allows reply s = refl

-- no unit has ended
pub none_ended : (r : Raw) (t : Take) → (take_one r t).base.units ≡ r.base.units → ends_before r t ≡ []
none_ended r t same =
    let still : nat_lt r.base.units (take_one r t).base.units ≡ false = search (rules, arith) in
    ap (λ b. cond b (end_of r t ∷ []) []) still

-- a unit has ended
pub one_ended : (r : Raw) (t : Take) → (take_one r t).base.units ≡ r.base.units + 1 → ends_before r t ≡ end_of r t ∷ []
one_ended r t more =
    let ended : nat_lt r.base.units (take_one r t).base.units ≡ true = search (rules, arith) in
    ap (λ b. cond b (end_of r t ∷ []) []) ended
