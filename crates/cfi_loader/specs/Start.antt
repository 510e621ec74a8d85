-- What starting a plan makes, and why it cannot be started.
use Rattle.std.specs.Prelude.{◌≡◌, false, List, []}
use Rattle.atomic_table.specs.Seated.{TableId}
use Rattle.cfi_aux.specs.declared.modules.Module.{Module}
use Rattle.cfi_plan.specs.declared.plan.Plan.{Plan}
use Rattle.cfi_tables.specs.Key.{Named}
use Rattle.cfi_tables.specs.Keeping.{opened_keeping}
use Rattle.cfi_valid.specs.Journal.{IsOpeningState}
use Rattle.cfi_valid.specs.Script.{script_calls}
use Rattle.cfi_loader.specs.Ledger.{Ledger}

-- which table was made, for which slips there is a pad, and the ledger of the loader that is to be opened
pub record Started : Type 0 where
  pub named : Named
  pub slips : TableId
  pub ledger : Ledger

-- no line was written yet, and all calls of the script are left
pub record IsStarted (plan : Plan) (modules : List Module) (s : Started) : Type 0 where
  pub plan_is : s.ledger.course.plan ≡ plan
  pub modules_are : s.ledger.course.modules ≡ modules
  pub journal_is : s.ledger.course.journal ≡ []
  pub opens : IsOpeningState plan modules s.ledger.course.end
  pub keeping_is : s.ledger.keeping ≡ opened_keeping s.named.key
  pub left_is : s.ledger.left ≡ script_calls plan.script
  pub not_starved : s.ledger.starved ≡ false
