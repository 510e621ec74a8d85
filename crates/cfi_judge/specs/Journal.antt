-- Where a journal is not legal.
use Rattle.std.specs.Prelude.{◌≡◌, ℕ, List, length, slice_get, take, Some, ◌⊎◌, ⊤}
use Rattle.cfi_aux.specs.declared.modules.Module.{Module}
use Rattle.cfi_plan.specs.declared.journal.Entry.{Entry}
use Rattle.cfi_plan.specs.declared.plan.Plan.{Plan}
use Rattle.cfi_report.specs.declared.report.Report.{Report}
use Rattle.cfi_valid.specs.Journal.{JournalState, EntriesLead, EntryLeads, IsJournal, IsOpeningState}
use Rattle.cfi_judge.specs.declared.fault.JournalFault.{JournalFault}
use Rattle.cfi_judge.specs.declared.fault.JournalFault.TheVariants.{Line, Memory}

-- the force of a report is that of a state
pub record HasForce (report : Report) (s : JournalState) : Type 0 where
  pub epoch : report.epoch ≡ s.epoch
  pub policy : report.policy ≡ s.policy

-- the lines before this one lead from the start to a state from which it leads nowhere
pub record IsIllegalAt (plan : Plan) (modules : List Module) (start : JournalState) (journal : List Entry)
    (number : ℕ) : Type 0 where
  pub entry : Entry
  pub is : slice_get journal number ≡ Some entry
  pub before : JournalState
  pub leads : EntriesLead plan modules start (take number journal) before
  pub never : (new : JournalState) → ¬ EntryLeads plan modules before entry new

-- all lines are legal, and lead to a state with another force
pub record HasOtherForce (plan : Plan) (modules : List Module) (report : Report) (number : ℕ) : Type 0 where
  pub all : number ≡ length report.journal
  pub end : JournalState
  pub leads : IsJournal plan modules report.journal end
  pub other : ¬ HasForce report end

-- the first line that is not legal, from the opening on
pub record IsFirstIllegal (plan : Plan) (modules : List Module) (report : Report) (number : ℕ) : Type 0 where
  pub opening : JournalState
  pub opens : IsOpeningState plan modules opening
  pub here : IsIllegalAt plan modules opening report.journal number

-- why the journal of a report is not one of the plan: a line, or the force; want of memory says nothing
abbrev pub IsJournalFault : Plan → List Module → Report → JournalFault → Type 0
IsJournalFault plan modules report (Line number) =
    IsFirstIllegal plan modules report number ⊎ HasOtherForce plan modules report number
IsJournalFault plan modules report Memory = ⊤
