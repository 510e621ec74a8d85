-- A valid report has no fault but want of memory.
use Rattle.std.proofs.Common.{◌≡◌, ℕ, List, Result, Ok, Err, refl, subst}
use Rattle.std.specs.Prelude.{IfErr}
use Rattle.cfi_aux.specs.declared.modules.Module.{Module}
use Rattle.cfi_plan.specs.declared.plan.Plan.{Plan}
use Rattle.cfi_report.specs.declared.report.GuestPart.{GuestPart}
use Rattle.cfi_report.specs.declared.report.Report.{Report}
use Rattle.cfi_valid.specs.Course.{Course}
use Rattle.cfi_valid.specs.Journal.{JournalState}
use Rattle.cfi_valid.specs.Valid.{HasGuests, HasJournal, IsValidReport, OfEach, course_of}
use Rattle.cfi_valid.proofs.JournalLemmas.{journal_once}
use Rattle.cfi_judge.specs.Judge.{HasItsLog, HasItsReplay, HasItsSteps, HoldsToReplays, IsFirstPart, IsJudgeFault}
use Rattle.cfi_judge.specs.declared.fault.JournalFault.TheVariants.{Line}
use Rattle.cfi_judge.specs.declared.fault.JudgeFault.{JudgeFault}
use Rattle.cfi_judge.specs.declared.fault.JudgeFault.TheVariants.{Modules, Journal, Script, Guests, Log, Replay, Steps, Memory}
use Rattle.cfi_judge.proofs.WalkLemmas.{never_line}

-- ---- all parts

pub all_valid : (plan : Plan) (modules : List Module) (report : Report) (end : JournalState)
    → HoldsToReplays plan modules report end → OfEach report (HasItsSteps (course_of plan modules report end))
    → IsValidReport plan modules report
all_valid plan modules report end holds steps =
    let logs = holds.before in
    let guests = logs.before in
    let script = guests.before in
    let journal = script.before in
    record {
      end = end;
      listed = journal.listed;
      journal = journal.journal;
      script = script.script;
      guests = guests.guests;
      replay = holds.replays;
      log = logs.logs;
      steps = steps;
    }

-- ---- and none of them

first_fails : (report : Report) (Holds : (number : ℕ) → GuestPart → Type 0) (number : ℕ)
    → IsFirstPart report Holds number → ¬ OfEach report Holds
first_fails report Holds number first all = first.fails (all number first.part first.is)

module _ (plan : Plan) (modules : List Module) (report : Report) (valid : IsValidReport plan modules report) where
  -- its end is that of any part
  ends : (end : JournalState) → HasJournal plan modules report end → valid.end ≡ end
  ends end journal =
      journal_once plan modules report.journal valid.end end valid.journal.course journal.course

  in_end : (P : Course → Type 0) (end : JournalState) → HasJournal plan modules report end
      → P (course_of plan modules report valid.end) → P (course_of plan modules report end)
  in_end P end journal holds =
      subst (λ (s : JournalState). P (course_of plan modules report s)) (ends end journal) holds

  pub memory_alone : (fault : JudgeFault) → IsJudgeFault plan modules report fault → fault ≡ Memory
  memory_alone Modules is = absurd (is (valid.end.loaded, valid.listed))
  memory_alone (Journal number) is = absurd (never_line plan modules report (Line number) is.1 number valid.end valid.journal refl)
  memory_alone Script is = absurd (is.2 valid.script)
  memory_alone Guests is =
      absurd (is.2 (in_end (λ (c : Course). HasGuests c report) is.0 is.1.before.journal valid.guests))
  memory_alone (Log number) is =
      absurd (first_fails report (HasItsLog (course_of plan modules report is.0)) number is.2
      (in_end (λ (c : Course). OfEach report (HasItsLog c)) is.0 is.1.before.before.journal valid.log))
  memory_alone (Replay number) is =
      absurd (first_fails report (HasItsReplay (course_of plan modules report is.0)) number is.2
      (in_end (λ (c : Course). OfEach report (HasItsReplay c)) is.0 is.1.before.before.before.journal valid.replay))
  memory_alone (Steps number) is =
      absurd (first_fails report (HasItsSteps (course_of plan modules report is.0)) number is.2
      (in_end (λ (c : Course). OfEach report (HasItsSteps c)) is.0 is.1.before.before.before.before.journal valid.steps))
  memory_alone Memory is = refl

  pub memory_only : {T : Type 0} (r : Result T JudgeFault) → IfErr r (IsJudgeFault plan modules report)
      → IfErr r (λ fault. fault ≡ Memory)
  memory_only (Ok one) is = tt
  memory_only (Err fault) is = memory_alone fault is
