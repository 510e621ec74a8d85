-- Why a module does not join has numbers.
use Rattle.std.proofs.Common.{◌≡◌, ◌≢◌, ℕ, List, Some, refl}
use Rattle.cfi_aux.specs.declared.modules.Module.{Module}
use Rattle.cfi_aux.specs.declared.placed.Placed.{Placed}
use Rattle.cfi_place.specs.declared.fault.PlaceFault.TheVariants as places
use Rattle.cfi_verify.specs.declared.fault.VerifyFault.TheVariants as verifying
use Rattle.cfi_modules.specs.declared.fault.JoinFault.{JoinFault}
use Rattle.cfi_modules.specs.declared.fault.JoinFault.TheVariants.{Place, Verify, Memory}
use Rattle.cfi_modules.specs.declared.numbers.FaultNumbers.{FaultNumbers}
use Rattle.cfi_modules.specs.declared.numbers.FaultNumbers.TheVariants as told
use Rattle.cfi_modules.specs.Numbers.{numbers_of}
use Rattle.cfi_modules.specs.Order.{IsJoinFault}

module _ (code_words : ℕ) (before live : List Placed) (m : Module) where
  pub has_numbers : (fault : JoinFault) → IsJoinFault code_words before live m fault → fault ≢ Memory
      → (n : FaultNumbers) × (numbers_of fault ≡ Some n)
  has_numbers (Place (places.Undefined name)) is some = (told.Place 1, refl)
  has_numbers (Place places.CodeFull) is some = (told.Place 2, refl)
  has_numbers (Place places.DataFull) is some = (told.Place 3, refl)
  has_numbers (Place (places.Reloc number fault)) is some = (told.Place 4, refl)
  has_numbers (Place places.Memory) is some = absurd (is.1 refl)
  has_numbers (Verify verifying.Empty) is some = (told.Verify 1 0, refl)
  has_numbers (Verify (verifying.Illegal o)) is some = (told.Verify 2 o, refl)
  has_numbers (Verify (verifying.NotUnit o)) is some = (told.Verify 3 o, refl)
  has_numbers (Verify (verifying.Slot o)) is some = (told.Verify 4 o, refl)
  has_numbers (Verify (verifying.Functions k)) is some = (told.Verify 5 k, refl)
  has_numbers (Verify (verifying.FallsThrough k)) is some = (told.Verify 6 k, refl)
  has_numbers (Verify (verifying.Target o)) is some = (told.Verify 7 o, refl)
  has_numbers (Verify (verifying.Kinds o)) is some = (told.Verify 8 o, refl)
  has_numbers (Verify (verifying.Switch k)) is some = (told.Verify 9 k, refl)
  has_numbers (Verify verifying.Memory) is some = absurd (is.2.stands.2)
  has_numbers Memory is some = absurd (some refl)
