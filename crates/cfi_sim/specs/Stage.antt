-- How far a schedule has come: the world, what the journal says, and what the update under way is for.
use Rattle.std.specs.Prelude.{◌≡◌, ℕ, ◌+◌, List, [], ◌∷◌, ◌++◌, Option, Some, None}
use Rattle.cfi_aux.specs.declared.modules.Module.{Module}
use Rattle.cfi_aux.specs.declared.placed.Placed.{Placed}
use Rattle.cfi_model.specs.World.{World}
use Rattle.cfi_plan.specs.declared.journal.Entry.{Entry}
use Rattle.cfi_plan.specs.declared.journal.JournalLine.{JournalLine}
use Rattle.cfi_plan.specs.declared.journal.JournalLine.TheVariants as lines
use Rattle.cfi_plan.specs.declared.journal.Who.TheVariants.{Script}
use Rattle.cfi_plan.specs.declared.plan.Plan.{Plan}
use Rattle.cfi_sim.specs.declared.aim.Aim.{Aim}
use Rattle.cfi_sim.specs.declared.aim.Aim.TheVariants.{Loading, Refreshing}
use Rattle.cfi_valid.specs.Journal.{JournalState, IsClean, with_loaded}

-- the world; the journal and the state to which it leads; the aim of the update whose EPOCH store is not made yet; how
-- many events there were
pub record Stage : Type 0 where
  pub world : World
  pub journal : List Entry
  pub state : JournalState
  pub aim : Option Aim
  pub events : ℕ

-- with a line of the journal more, for which the schedule stands as the script
abbrev pub with_journal_line : JournalLine → Stage → Stage
with_journal_line line s = record s { journal = s.journal ++ record { who = Script; what = line } ∷ [] }

-- what came of an update that was not made
abbrev pub versions_line : Aim → (guest quiet : ℕ) → JournalLine
versions_line (Loading number) guest quiet = lines.LoadVersions number guest quiet
versions_line Refreshing guest quiet = lines.RefreshVersions guest quiet

-- the update under way is not made, with its line
abbrev pub dropped : Option Aim → (guest quiet : ℕ) → Stage → Stage
dropped None guest quiet s = s
dropped (Some aim) guest quiet s = with_journal_line (versions_line aim guest quiet) (record s { aim = None })

-- what comes of one with its EPOCH store: the module is loaded as it is placed, or the epoch is the next one
abbrev pub loaded_as : (number : ℕ) → Placed → Stage → Stage
loaded_as number placed s =
    let epoch = s.state.epoch + 1 in
    let policy = s.state.policy + 1 in
    with_journal_line (lines.LoadOk number epoch policy)
    (record s { state = with_loaded number epoch policy placed s.state; aim = None })

-- a refresh is in force, with its line
abbrev pub refreshed : Stage → Stage
refreshed s =
    let epoch = s.state.epoch + 1 in
    with_journal_line (lines.RefreshOk epoch) (record s { state = record s.state { epoch = epoch }; aim = None })

-- the update is in force: a load of a module that joins, or a refresh
abbrev pub IsMade : Plan → List Module → Option Aim → (old new : Stage) → Type 0
IsMade plan modules None old new = new ≡ old
IsMade plan modules (Some (Loading number)) old new =
    (clean : IsClean plan modules old.state number) × (new ≡ loaded_as number clean.placed old)
IsMade plan modules (Some Refreshing) old new = new ≡ refreshed old

-- one event more, and the world after it
abbrev pub after_event : World → Stage → Stage
after_event world s = record s { world = world; events = s.events + 1 }
