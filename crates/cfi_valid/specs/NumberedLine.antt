-- The line of a journal that tells of a module with a fault, by the fault's numbers.
use Rattle.std.specs.Prelude.{ℕ}
use Rattle.cfi_plan.specs.declared.journal.JournalLine.{JournalLine}
use Rattle.cfi_plan.specs.declared.journal.JournalLine.TheVariants.{LoadPlace, LoadVerify}
use Rattle.cfi_modules.specs.declared.numbers.FaultNumbers.{FaultNumbers}
use Rattle.cfi_modules.specs.declared.numbers.FaultNumbers.TheVariants.{Place, Verify}

-- the line of a module's fault
abbrev pub numbered_line : (number : ℕ) → FaultNumbers → JournalLine
numbered_line number (Place fault) = LoadPlace number fault
numbered_line number (Verify fault place) = LoadVerify number fault place
