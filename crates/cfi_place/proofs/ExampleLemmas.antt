-- The one word `j .` is read as one unit.
use Rattle.std.proofs.Common.{pos, false, [], ◌∷◌, refl, arith}
use Rattle.cfi_unit.specs.declared.unit.Unit.TheVariants as units
use Rattle.cfi_unit.proofs.UnitLemmas.{size_pos}
use Rattle.cfi_unit.proofs.CodeLemmas.{BeginsAt-within}
use Rattle.cfi_place.specs.Slots.{ReadFrom}

pub loop_read : ReadFrom (0x6f ∷ []) 0 (units.Jump false (pos 0) ∷ [])
loop_read = (
  record { fits = (omega arith, refl); spelled = refl },
  λ unit begins. omega (arith, BeginsAt-within (0x6f ∷ []) 1 unit begins, size_pos unit),
)
