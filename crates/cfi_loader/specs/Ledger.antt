-- What a loader keeps, as clauses see it, and how its parts agree.
use Rattle.std.specs.Prelude.{◌≡◌, ℕ, ◌+◌, ◌<◌, Bool, true, List, ◌++◌, length, All}
use Rattle.cfi_aux.specs.declared.modules.Module.{Module}
use Rattle.cfi_model.specs.Tables.{IsTables}
use Rattle.cfi_plan.specs.declared.plan.Plan.{Plan}
use Rattle.cfi_tables.specs.Faults.{epoch_after}
use Rattle.cfi_tables.specs.Keeping.{Keeping, is_out, last_of}
use Rattle.cfi_tables.specs.Key.{Key}
use Rattle.cfi_tables.specs.Views.{idle_tables}
use Rattle.cfi_valid.specs.Course.{Course, IsCourse}
use Rattle.cfi_valid.specs.Script.{Call, script_calls, made_by_script}
use Rattle.cfi_loader.specs.Epochs.{HavePoliciesOf}
use Rattle.cfi_loader.specs.Mark.{AreMade, AreRefused}
use Rattle.cfi_ledger.specs.Plans.{CanStart}
use Rattle.cfi_loader.specs.Plans.{AreTablesOf}
use Rattle.cfi_ledger.specs.Entries.{HaveEntries}
use Rattle.cfi_ledger.specs.Policies.{HavePolicies, IsEntryOf}

-- the run so far, with its journal and the state to which that leads; what the keeper of the tables keeps; the calls of
-- the script that are left; and whether memory was missing
pub record Ledger : Type 0 where
  pub course : Course
  pub keeping : Keeping
  pub left : List Call
  pub starved : Bool

-- what the keeper keeps is what the journal tells: the epoch and the policy in force, an entry for each update that was
-- made, with its mark, its policy and its image, and the updates that were not admitted
pub record TellsOf (k : Key) (c : Course) (keeping : Keeping) : Type 0 where
  pub tables : IsTables (idle_tables k keeping)
  pub epoch : c.end.epoch + 1 ≡ epoch_after k keeping
  pub policy : c.end.policy ≡ (last_of keeping.entries).policy
  pub images : All (IsEntryOf c) keeping.entries
  pub marks : AreMade c.journal keeping.entries
  pub epochs : HavePoliciesOf c.journal keeping.entries
  pub refusals : AreRefused c.journal keeping.refusals
  pub guests : (guest : ℕ) → is_out keeping.out guest ≡ true → guest < length c.plan.guests

-- the ledger of a plan and its modules, at these tables: the journal is legal, line by line; the keeper keeps what it
-- tells; and the lines of the script are those of its calls before the first that is left
pub record IsLedger (k : Key) (plan : Plan) (modules : List Module) (l : Ledger) : Type 0 where
  pub plan_is : l.course.plan ≡ plan
  pub modules_are : l.course.modules ≡ modules
  pub can_start : CanStart l.course.plan l.course.modules
  pub tables_are : AreTablesOf l.course.plan k
  pub course : IsCourse l.course
  pub policies : HavePolicies l.course.plan l.course.end
  pub entries : HaveEntries l.course.plan l.course.end.loaded
  pub told : TellsOf k l.course l.keeping
  pub script : made_by_script l.course.journal ++ l.left ≡ script_calls l.course.plan.script
