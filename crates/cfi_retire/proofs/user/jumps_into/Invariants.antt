use Rattle.std.proofs.Common.{List, ◌-◌, length}
use Rattle.cfi_unit.specs.declared.unit.Unit.{Unit as CodeUnit}
use Rattle.cfi_unit.specs.Code.{UnitCode}
use Rattle.cfi_retire.proofs.JumpLemmas.{IsLeft, Jumps}
use Rattle.cfi_retire.proofs.user.jumps_into.Given as goal

abbrev pub invariant-units : goal.invariant-units
invariant-units l =
    (code : List CodeUnit) → UnitCode l.placed.words code → IsLeft (Jumps l.placed l.target) l.placed.words code l.at

abbrev pub decreases-units : goal.decreases-units
decreases-units l = length l.placed.words - l.at
