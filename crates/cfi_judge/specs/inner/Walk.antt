-- Where some lines of a journal are not legal, from some state on.
use Rattle.std.specs.Prelude.{ℕ, List, ⊤}
use Rattle.cfi_aux.specs.declared.modules.Module.{Module}
use Rattle.cfi_plan.specs.declared.journal.Entry.{Entry}
use Rattle.cfi_plan.specs.declared.plan.Plan.{Plan}
use Rattle.cfi_valid.specs.Journal.{JournalState}
use Rattle.cfi_judge.specs.declared.fault.JournalFault.{JournalFault}
use Rattle.cfi_judge.specs.declared.fault.JournalFault.TheVariants.{Line, Memory}
use Rattle.cfi_judge.specs.declared.fault.LineFault.{LineFault}
use Rattle.cfi_judge.specs.declared.fault.LineFault.TheVariants as lines
use Rattle.cfi_judge.specs.Journal.{IsIllegalAt}

-- the fault of a line, as one of the journal
abbrev pub at_line : (number : ℕ) → LineFault → JournalFault
at_line number lines.Illegal = Line number
at_line number lines.Memory = Memory

-- a line is not legal where it stands; want of memory says nothing
abbrev pub IsWalkFault : Plan → List Module → (start : JournalState) → (journal : List Entry) → JournalFault → Type 0
IsWalkFault plan modules start journal (Line number) = IsIllegalAt plan modules start journal number
IsWalkFault plan modules start journal Memory = ⊤
