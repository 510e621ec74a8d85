-- The state to which the first lines of a journal lead, with its rows.
use Rattle.std.specs.Prelude.{◌≡◌, List}
use Rattle.cfi_aux.specs.declared.modules.Module.{Module}
use Rattle.cfi_ledger.specs.Policies.{HavePolicies}
use Rattle.cfi_ledger.specs.Roster.{members_in_roster}
use Rattle.cfi_plan.specs.declared.plan.Plan.{Plan}
use Rattle.cfi_valid.specs.Loaded.{live_flags}
use Rattle.cfi_judge.specs.Reached.{StandsIn, state_of}
use Rattle.cfi_judge.specs.declared.reached.Reached.{Reached}
use Rattle.cfi_judge.specs.inner.Rows.{AreRows}

-- it stands in the code of the plan, and has flags that tell which of its modules are live
pub record IsKeptIn (plan : Plan) (r : Reached) : Type 0 where
  pub stands : StandsIn plan r
  pub flags : r.roster.flags ≡ live_flags r.policy (members_in_roster r.roster)

-- and a row for each policy, and its policies are those of a journal
pub record IsReached (plan : Plan) (modules : List Module) (r : Reached) : Type 0 where
  pub kept : IsKeptIn plan r
  pub rows : AreRows plan.code_words modules (state_of r) r.rows.items
  pub policies : HavePolicies plan (state_of r)
