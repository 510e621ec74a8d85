-- What holds of each stage of a schedule: its journal is legal so far, and its world agrees with it.
use Rattle.std.specs.Prelude.{ℕ, ◌<◌, List, Option, Some, None, ⊤}
use Rattle.cfi_aux.specs.declared.modules.Module.{Module}
use Rattle.cfi_plan.specs.declared.plan.Plan.{Plan}
use Rattle.cfi_sim.specs.Agrees.{WorldAgrees}
use Rattle.cfi_sim.specs.declared.aim.Aim.{Aim}
use Rattle.cfi_sim.specs.declared.aim.Aim.TheVariants.{Loading, Refreshing}
use Rattle.cfi_sim.specs.Stage.{Stage}
use Rattle.cfi_valid.specs.Journal.{JournalState, IsClean, IsOpeningState, EntriesLead}
use Rattle.cfi_word.specs.declared.limits.TheConstants.{MAX_EPOCH}

-- a load that is under way had no fault, and an epoch was left
pub record LoadFits (plan : Plan) (modules : List Module) (state : JournalState) (number : ℕ) : Type 0 where
  pub clean : IsClean plan modules state number
  pub left : state.epoch < MAX_EPOCH

-- what an update is for can be put in force
abbrev pub AimFits : Plan → List Module → JournalState → Option Aim → Type 0
AimFits plan modules state None = ⊤
AimFits plan modules state (Some (Loading number)) = LoadFits plan modules state number
AimFits plan modules state (Some Refreshing) = state.epoch < MAX_EPOCH

-- the journal leads from the opening to the stage's state
pub record JournalStands (plan : Plan) (modules : List Module) (opening : JournalState) (s : Stage) : Type 0 where
  pub leads : EntriesLead plan modules opening s.journal s.state
  pub aim : AimFits plan modules s.state s.aim

-- the journal is legal so far, and the world agrees with it
pub record Holds (plan : Plan) (modules : List Module) (opening : JournalState) (s : Stage) : Type 0 where
  pub stands : JournalStands plan modules opening s
  pub agrees : WorldAgrees plan modules s

-- so it holds from some opening on
pub record IsGoing (plan : Plan) (modules : List Module) (s : Stage) : Type 0 where
  pub opening : JournalState
  pub opens : IsOpeningState plan modules opening
  pub holds : Holds plan modules opening s
