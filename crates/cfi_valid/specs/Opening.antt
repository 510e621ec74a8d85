-- Why a plan cannot be opened: a start module that does not join those before it, or a guest that has nowhere to begin.
use Rattle.std.specs.Prelude.{◌≡◌, ℕ, ◌<◌, true, List, take, slice_get, Some}
use Rattle.cfi_aux.specs.declared.modules.Module.{Module}
use Rattle.cfi_aux.specs.declared.placed.Placed.{Placed}
use Rattle.cfi_plan.specs.declared.plan.Plan.{Plan}
use Rattle.cfi_plan.specs.declared.plan.PlanModule.{PlanModule}
use Rattle.cfi_modules.specs.declared.fault.JoinFault.{JoinFault}
use Rattle.cfi_modules.specs.Order.{AreInOrder, IsJoinFault}
use Rattle.cfi_valid.specs.Guests.{HasEntry}
use Rattle.cfi_valid.specs.Journal.{JournalState, IsOpeningState, starts_from, modules_at}

-- the start module of this number is the first that does not join those before it
pub record IsFirstUnjoined (plan : Plan) (modules : List Module) (number : ℕ) (fault : JoinFault) : Type 0 where
  pub line : PlanModule
  pub line_is : slice_get plan.modules number ≡ Some line
  pub starts : line.start ≡ true
  pub unplaced : Module
  pub is : slice_get modules number ≡ Some unplaced
  pub before : List Placed
  pub order : AreInOrder plan.code_words (modules_at modules (starts_from 0 (take number plan.modules))) before
  pub why : IsJoinFault plan.code_words before before unplaced fault

-- all start modules join, and the guest of this number is the first that has none
pub record IsFirstLost (plan : Plan) (modules : List Module) (guest : ℕ) : Type 0 where
  pub opening : JournalState
  pub opens : IsOpeningState plan modules opening
  pub entry : List ℕ
  pub is : slice_get plan.guests guest ≡ Some entry
  pub lost : ¬ HasEntry plan opening.loaded entry
  pub before : (k : ℕ) (other : List ℕ) → k < guest → slice_get plan.guests k ≡ Some other
      → HasEntry plan opening.loaded other
