-- The course of a run, against which each guest is judged.
use Rattle.std.specs.Prelude.{List}
use Rattle.cfi_aux.specs.declared.modules.Module.{Module}
use Rattle.cfi_plan.specs.declared.journal.Entry.{Entry}
use Rattle.cfi_plan.specs.declared.plan.Plan.{Plan}
use Rattle.cfi_valid.specs.Journal.{JournalState, IsJournal}

-- the plan and its modules, the journal, and the state to which it leads
pub record Course : Type 0 where
  pub plan : Plan
  pub modules : List Module
  pub journal : List Entry
  pub end : JournalState

-- the journal leads from the plan's opening to the end
abbrev pub IsCourse : Course → Type 0
IsCourse c = IsJournal c.plan c.modules c.journal c.end
