-- Where the journal of a report leads.
use Rattle.std.specs.Prelude.{◌↔◌, IsTrue, List}
use Rattle.cfi_aux.specs.declared.modules.Module.{Module}
use Rattle.cfi_plan.specs.declared.plan.Plan.{Plan}
use Rattle.cfi_report.specs.declared.report.Report.{Report}
use Rattle.cfi_valid.specs.Valid.{HasGuests, course_of}
use Rattle.cfi_judge.specs.Judge.{HoldsToJournal}
use Rattle.cfi_judge.specs.Reached.{state_of}
use Rattle.cfi_judge.specs.declared.judged.Ending.{Ending}
use Rattle.cfi_judge.specs.inner.Reached.{IsReached}

-- the report has the modules and the journal, which leads to this state with its rows; and it is known of the guests
pub record IsEnding (plan : Plan) (modules : List Module) (report : Report) (e : Ending) : Type 0 where
  pub holds : HoldsToJournal plan modules report (state_of e.reached)
  pub reached : IsReached plan modules e.reached
  pub guests : IsTrue e.has_guests ↔ HasGuests (course_of plan modules report (state_of e.reached)) report
