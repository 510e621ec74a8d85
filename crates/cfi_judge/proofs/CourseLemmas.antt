-- The start modules in a course.
use Rattle.std.proofs.Common.{◌≡◌, List, length, refl, ap, subst, ◌∙◌, arith}
use Rattle.cfi_aux.specs.declared.modules.Module.{Module}
use Rattle.cfi_ledger.specs.Plans.{CanStart}
use Rattle.cfi_ledger.specs.Roster.{Roster}
use Rattle.cfi_ledger.specs.Starts.{AreStarted, opened_state}
use Rattle.cfi_ledger.proofs.OpeningLemmas.{start_places}
use Rattle.cfi_ledger.proofs.StartLemmas.{started_all}
use Rattle.cfi_plan.specs.declared.plan.Plan.{Plan}
use Rattle.cfi_report.specs.declared.report.Report.{Report}
use Rattle.cfi_valid.specs.Growth.{IsLater}
use Rattle.cfi_valid.specs.Journal.{JournalState}
use Rattle.cfi_valid.specs.Loaded.{placed_modules}
use Rattle.cfi_valid.specs.Valid.{HasJournal, course_of}
use Rattle.cfi_valid.proofs.GrowthLemmas.{along_later, loaded_stays}
use Rattle.cfi_valid.proofs.JournalLemmas.{opening_once}
use Rattle.cfi_judge.specs.Guests.{HasStarts}

pub starts_stay : (plan : Plan) (modules : List Module) (starts : Roster) (report : Report) (end : JournalState)
    → CanStart plan modules → AreStarted plan modules (length plan.modules) starts
    → HasJournal plan modules report end → HasStarts plan starts.placed (course_of plan modules report end)
starts_stay plan modules starts report end can all has =
    let first : JournalState = opened_state plan starts in
    let same : has.course.opening ≡ first =
    opening_once plan modules has.course.opening first has.course.opens (started_all plan modules starts all) in
    let later : IsLater first end =
    subst (λ (s : JournalState). IsLater s end) same
    (along_later plan modules has.course.opening end report.journal has.course.leads) in
    record {
      plan_is = refl;
      starts_are = ap placed_modules (loaded_stays first end later 0 (omega arith))
          ∙ start_places plan modules can starts all;
    }
