-- The numbers by which the line of a journal tells why a module does not join: of placing the number of the fault's
-- kind, from 1 in the order of the kinds; of verifying that number and the fault's place, 0 for a module without code.
-- Want of memory is no fault of a module, and has no numbers.
use Rattle.std.specs.Prelude.{Option, Some, None}
use Rattle.cfi_place.specs.declared.fault.PlaceFault.{PlaceFault}
use Rattle.cfi_place.specs.declared.fault.PlaceFault.TheVariants as places
use Rattle.cfi_verify.specs.declared.fault.VerifyFault.{VerifyFault}
use Rattle.cfi_verify.specs.declared.fault.VerifyFault.TheVariants as verifying
use Rattle.cfi_verify.specs.Fault.{fault_number, fault_place}
use Rattle.cfi_modules.specs.declared.fault.JoinFault.{JoinFault}
use Rattle.cfi_modules.specs.declared.fault.JoinFault.TheVariants as faults
use Rattle.cfi_modules.specs.declared.numbers.FaultNumbers.{FaultNumbers}
use Rattle.cfi_modules.specs.declared.numbers.FaultNumbers.TheVariants.{Place, Verify}

-- those of a fault of placing
abbrev pub place_numbers : PlaceFault → Option FaultNumbers
place_numbers (places.Undefined name) = Some (Place 1)
place_numbers places.CodeFull = Some (Place 2)
place_numbers places.DataFull = Some (Place 3)
place_numbers (places.Reloc number fault) = Some (Place 4)
place_numbers places.Memory = None

-- those of a fault of verifying
abbrev pub verify_numbers : VerifyFault → Option FaultNumbers
verify_numbers verifying.Memory = None
verify_numbers fault = Some (Verify (fault_number fault) (fault_place fault))

-- those of a fault of joining
abbrev pub numbers_of : JoinFault → Option FaultNumbers
numbers_of (faults.Place fault) = place_numbers fault
numbers_of (faults.Verify fault) = verify_numbers fault
numbers_of faults.Memory = None
