-- What the replay of a guest's part comes to, and what is kept of those so far.
use Rattle.std.specs.Prelude.{◌≡◌, ℕ, Option, Some, None, Result, Ok, Err}
use Rattle.cfi_report.specs.declared.report.GuestPart.{GuestPart}
use Rattle.cfi_replay.specs.declared.setting.Setting.{Setting}
use Rattle.cfi_valid.specs.Course.{Course}
use Rattle.cfi_valid.specs.Parts.{FitsEndedSteps, HasEndedReplay}
use Rattle.cfi_judge.specs.declared.fault.JudgeFault.{JudgeFault}
use Rattle.cfi_judge.specs.declared.fault.JudgeFault.TheVariants.{Replay}
use Rattle.cfi_judge.specs.declared.runs.Outcome.{Outcome}
use Rattle.cfi_judge.specs.declared.runs.Outcome.TheVariants.{Other, Same, Steps}
use Rattle.cfi_judge.specs.declared.trial.Trial.{Trial}

-- what an outcome says of a part in a course: a case an outcome
abbrev pub HasOutcome : Course → GuestPart → Outcome → Type 0
HasOutcome c part Other = ¬ HasEndedReplay c part
HasOutcome c part Steps = HasEndedReplay c part × (¬ FitsEndedSteps c part)
HasOutcome c part Same = HasEndedReplay c part × FitsEndedSteps c part

-- the first guest whose steps do not fit, with one guest more; a replay that comes to something else ends it
abbrev pub kept_with : (kept : Option ℕ) → (number : ℕ) → Outcome → Result (Option ℕ) JudgeFault
kept_with kept number Other = Err (Replay number)
kept_with None number Steps = Ok (Some number)
kept_with (Some first) number Steps = Ok (Some first)
kept_with kept number Same = Ok kept

-- the replays are those of the course that is judged
pub record IsSetIn (t : Trial) (s : Setting) : Type 0 where
  pub plan_is : s.plan.now ≡ t.plan.now
  pub roster_is : s.roster.now ≡ t.end.now.roster
  pub force_is : s.force ≡ t.end.now.policy
