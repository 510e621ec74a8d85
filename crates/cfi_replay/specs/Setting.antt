-- Over what the guests of a report are replayed, and to what the units of a part come there.
use Rattle.std.specs.Prelude.{◌≡◌, ◌≢◌, ℕ, ◌≤◌, List, slice_get, Some}
use Rattle.cfi_ledger.specs.Roster.{IsRosterOf, loaded_in_roster, members_in_roster}
use Rattle.cfi_model.specs.Log.{last_policy}
use Rattle.cfi_model.specs.State.{State}
use Rattle.cfi_policy.specs.Code.{IsCodeOf}
use Rattle.cfi_report.specs.declared.report.GuestPart.{GuestPart}
use Rattle.cfi_unit.specs.declared.log.Log.{Log}
use Rattle.cfi_unit.specs.declared.log.Log.TheVariants.{Cause}
use Rattle.cfi_valid.specs.Course.{Course}
use Rattle.cfi_valid.specs.Journal.{members_of}
use Rattle.cfi_valid.specs.Loaded.{LoadedModule, Members, placed_modules, Filled}
use Rattle.cfi_valid.specs.Log.{NeverFall, Unlogged, why_of}
use Rattle.cfi_valid.specs.Parts.{ComesTo}
use Rattle.cfi_word.specs.declared.limits.TheConstants.{MAX_POLICY}
use Rattle.cfi_labels.specs.Cells.{AreCellsOf}
use Rattle.cfi_labels.specs.Labels.{AreLabelsOf, ComeInOrder}
use Rattle.cfi_replay.specs.declared.setting.Setting.{Setting}

-- the modules that were loaded
abbrev pub loaded_in : Setting → List LoadedModule
loaded_in s = loaded_in_roster s.roster.now

-- and which of them were retired
abbrev pub members_in : Setting → Members
members_in s = members_in_roster s.roster.now

-- the roster is one of the plan, its policies never fall, the code is that of all, and the labels and the cells are
-- those of the policies
pub record IsSetting (s : Setting) : Type 0 where
  pub roster : IsRosterOf s.plan.now s.roster.now
  pub order : ComeInOrder (loaded_in s)
  pub few : s.force ≤ MAX_POLICY
  pub code : IsCodeOf (placed_modules (loaded_in s)) s.plan.now.code_words s.code.now
  pub labels : AreLabelsOf (members_in s) s.force s.labels.now
  pub cells : AreCellsOf (members_in s) s.force s.cells.now

-- a log can be replayed: its policies never fall, none is above the one in force, and each cause is one that is logged
pub record CanReplay (s : Setting) (log : List Log) : Type 0 where
  pub rises : NeverFall 0 log
  pub most : last_policy log ≤ s.force
  pub causes : (at number cause : ℕ) → slice_get log at ≡ Some (Cause number cause) → why_of cause ≢ Unlogged

-- ---- to what the units of a part come

-- the course is one of the plan, to these modules
pub record IsCourseIn (s : Setting) (c : Course) : Type 0 where
  pub plan_is : c.plan ≡ s.plan.now
  pub members_are : members_of c.end ≡ members_in s

-- to this state, over this code
pub record ComesOver (code : List ℕ) (c : Course) (part : GuestPart) (last : State) : Type 0 where
  pub comes : ComesTo Filled c part last
  pub code_is : comes.code ≡ code

-- in each such course to this state
abbrev pub ComesIn : Setting → GuestPart → (last : State) → Type 0
ComesIn s part last = (c : Course) → IsCourseIn s c → ComesOver s.code.now c part last

-- in none to any
abbrev pub ComesNowhere : Setting → GuestPart → Type 0
ComesNowhere s part = (c : Course) → IsCourseIn s c → (last : State) → ¬ ComesTo Filled c part last
