-- The line that tells the numbers of a fault.
use Rattle.std.proofs.Common.{◌≡◌, ℕ, Option, Some, None, refl, sym}
use Rattle.std.specs.Prelude.{option_map}
use Rattle.cfi_plan.specs.declared.journal.JournalLine.{JournalLine}
use Rattle.cfi_modules.specs.declared.numbers.FaultNumbers.{FaultNumbers}
use Rattle.cfi_valid.specs.NumberedLine.{numbered_line}

-- a line came of numbers, and no line of none
pub from_numbers : (number : ℕ) (o : Option FaultNumbers) (line : JournalLine)
    → option_map (numbered_line number) o ≡ Some line
    → (told : FaultNumbers) × (o ≡ Some told) × (line ≡ numbered_line number told)
from_numbers number (Some told) line is =
    let same : numbered_line number told ≡ line = cc in
    (told, refl, sym same)
from_numbers number None line is = absurd (cc)

pub from_none : (number : ℕ) (o : Option FaultNumbers) → option_map (numbered_line number) o ≡ None → o ≡ None
from_none number (Some told) is = absurd (cc)
from_none number None is = refl
