-- The parts of guests that have stopped, as a ledger has them.
use Rattle.std.specs.Prelude.{ℕ, List, [], slice_index_or}
use Rattle.cfi_loader.specs.Ledger.{Ledger}
use Rattle.cfi_model.specs.History.{History}
use Rattle.cfi_model.specs.Words.{Tables}
use Rattle.cfi_guest_part.specs.Part.{part_of}
use Rattle.cfi_guest_part.specs.Ran.{IsRunOf}
use Rattle.cfi_plan.specs.declared.plan.Plan.{Plan}
use Rattle.cfi_report.specs.declared.report.GuestPart.{GuestPart}
use Rattle.cfi_runner.specs.Seen.{code_seen, history_seen}
use Rattle.cfi_tables.specs.Key.{Key}
use Rattle.cfi_tables.specs.Views.{idle_tables, sight_of}
use Rattle.cfi_valid.specs.Valid.{IsEnded}
use Rattle.cfi_guest_run.specs.Runner.{Ran}

-- what a part says of a runner's guest, with the entry of this number of its plan
abbrev pub part_by : Plan → Ran → GuestPart
part_by plan ran = part_of ran.pass.guest (slice_index_or plan.guests ran.pass.guest []) ran.guest

-- the history of a ledger's tables, and the code in force
abbrev pub history_by : Key → Ledger → History
history_by k l = history_seen k (sight_of k l.keeping [])

-- the code words that a ledger's tables have
abbrev pub code_by : Key → Ledger → List ℕ
code_by k l = code_seen k (sight_of k l.keeping [])

-- its tables
abbrev pub tables_by : Key → Ledger → Tables
tables_by k l = idle_tables k l.keeping

-- the part of the guest of this number
pub record IsPartAt (k : Key) (l : Ledger) (number : ℕ) (part : GuestPart) : Type 0 where
  pub ended : IsEnded l.course number part
  pub run : IsRunOf l.course (tables_by k l) (history_by k l) (code_by k l) number part
