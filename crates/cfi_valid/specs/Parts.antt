-- What a report says of one guest, in parts that are judged one by one: whose part it is, its replay, and its steps.
-- Its log is judged by `IsLogged`.
use Rattle.std.specs.Prelude.{◌≡◌, ◌≢◌, ℕ, List, slice_get, Some, None}
use Rattle.cfi_model.specs.State.{State, opened}
use Rattle.cfi_policy.specs.Code.{IsCodeOf}
use Rattle.cfi_report.specs.declared.report.GuestPart.{GuestPart}
use Rattle.cfi_valid.specs.Course.{Course}
use Rattle.cfi_valid.specs.Guests.{GuestBegins, HasEntry}
use Rattle.cfi_valid.specs.Journal.{members_of}
use Rattle.cfi_valid.specs.Loaded.{placed_modules, start_fills, Cells, Filled}
use Rattle.cfi_valid.specs.Replay.{Replays, shown_stop}
use Rattle.cfi_valid.specs.Steps.{HasSteps}

-- ---- whose part it is

-- that of the plan's guest of this number, which has somewhere to begin
pub record IsPartOf (c : Course) (number : ℕ) (part : GuestPart) : Type 0 where
  pub is : part.number ≡ number
  pub entry : slice_get c.plan.guests number ≡ Some part.entry
  pub begins : HasEntry c.plan c.end.loaded part.entry

-- ---- its replay

-- from its entry on, over all code that was loaded and over exactly its log, the policy machine runs as many units as
-- the part says, and so comes to this state
pub record ComesTo (cells : Cells) (c : Course) (part : GuestPart) (last : State) : Type 0 where
  pub address : ℕ
  pub begins : GuestBegins c.plan c.end.loaded part.entry address
  pub code : List ℕ
  pub is_code : IsCodeOf (placed_modules c.end.loaded) c.plan.code_words code
  pub replay : Replays cells code (members_of c.end) part.log part.units
      (opened part.number address (start_fills cells (members_of c.end))) last

-- that state has what the part says, whether the guest has stopped or not
pub record HasReplay (cells : Cells) (c : Course) (part : GuestPart) : Type 0 where
  pub last : State
  pub comes : ComesTo cells c part last
  pub output : last.output ≡ part.out
  pub log : last.log ≡ part.log
  pub stop : last.stop ≡ shown_stop part.stop

-- in a run the cells of imports are filled, and the guest has stopped
pub record HasEndedReplay (c : Course) (part : GuestPart) : Type 0 where
  pub stopped : part.stop ≢ None
  pub replay : HasReplay Filled c part

-- ---- its steps

-- they fit the state to which its units come
pub record FitsSteps (cells : Cells) (c : Course) (part : GuestPart) : Type 0 where
  pub last : State
  pub comes : ComesTo cells c part last
  pub counts : HasSteps c.plan.fuel comes.code last part

-- in a run no try was repeated where no update was made
pub record FitsEndedSteps (c : Course) (part : GuestPart) : Type 0 where
  pub fits : FitsSteps Filled c part
  pub single : c.end.epoch ≡ c.plan.first → fits.counts.repeats ≡ 0
