-- What a trial stands for.
use Rattle.cfi_valid.specs.Course.{Course}
use Rattle.cfi_valid.specs.Valid.{HasJournal, course_of}
use Rattle.cfi_ledger.specs.Plans.{CanStart}
use Rattle.cfi_judge.specs.Reached.{state_of}
use Rattle.cfi_judge.specs.inner.Reached.{IsReached}
use Rattle.cfi_judge.specs.declared.trial.Trial.{Trial}
use Rattle.cfi_valid.specs.Log as causes
use Rattle.cfi_judge.specs.declared.trial.Why.{Why}
use Rattle.cfi_judge.specs.declared.trial.Why.TheVariants.{NoModule, ModulesFull, NotPlaced, NotVerified, VersionsSpent, EpochsSpent, NoFunction, Retired, Unlogged}

-- the course that the report tells
abbrev pub course_in : Trial → Course
course_in j = course_of j.plan.now j.modules.now j.report.now (state_of j.end.now)

-- the journal of the report leads to the state, which has its rows
pub record IsTrial (j : Trial) : Type 0 where
  pub can : CanStart j.plan.now j.modules.now
  pub reached : IsReached j.plan.now j.modules.now j.end.now
  pub journal : HasJournal j.plan.now j.modules.now j.report.now (state_of j.end.now)

-- the cause that is meant: a case a cause
abbrev pub meant : Why → causes.Why
meant NoModule = causes.Why.NoModule
meant ModulesFull = causes.Why.ModulesFull
meant NotPlaced = causes.Why.NotPlaced
meant NotVerified = causes.Why.NotVerified
meant VersionsSpent = causes.Why.VersionsSpent
meant EpochsSpent = causes.Why.EpochsSpent
meant NoFunction = causes.Why.NoFunction
meant Retired = causes.Why.Retired
meant Unlogged = causes.Why.Unlogged
