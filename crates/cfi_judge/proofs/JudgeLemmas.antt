-- The parts of a report, one after the other.
use Rattle.std.proofs.Common.{◌≢◌, ◌≤◌, ℕ, List, length, arith}
use Rattle.cfi_aux.specs.declared.modules.Module.{Module}
use Rattle.cfi_ledger.specs.Opening.{IsStartFault}
use Rattle.cfi_ledger.specs.Plans.{CanStart}
use Rattle.cfi_ledger.specs.declared.fault.OpenFault.TheVariants.{NoEntry}
use Rattle.cfi_ledger.specs.declared.fault.StartFault.{StartFault}
use Rattle.cfi_ledger.specs.declared.fault.StartFault.TheVariants.{Open}
use Rattle.cfi_ledger.specs.declared.fault.StartFault.TheVariants as starts
use Rattle.cfi_plan.specs.declared.plan.Plan.{Plan}
use Rattle.cfi_report.specs.declared.report.Report.{Report}
use Rattle.cfi_valid.specs.Journal.{JournalState}
use Rattle.cfi_valid.specs.Valid.{HasGuests, HasJournal, HasScript, OfEach, course_of}
use Rattle.cfi_word.specs.declared.limits.TheConstants.{GUESTS}
use Rattle.cfi_judge.specs.Judge.{HasItsLog, HoldsToGuests, HoldsToJournal, HoldsToLogs, IsJudgeFault, journal_fault}
use Rattle.cfi_judge.specs.Journal.{IsJournalFault}
use Rattle.cfi_judge.specs.Modules.{HasSomeModules}
use Rattle.cfi_judge.specs.declared.fault.JournalFault.{JournalFault}
use Rattle.cfi_judge.specs.declared.fault.JournalFault.TheVariants.{Line, Memory}
use Rattle.cfi_judge.specs.inner.Faults.{start_fault}
use Rattle.cfi_judge.proofs.ModulesLemmas.{journal_has}
use Rattle.cfi_judge.proofs.UnjoinedLemmas.{never_told}

module _ (plan : Plan) (modules : List Module) (report : Report) where
  -- start modules that do not join
  pub start_fails : (fault : StartFault) → IsStartFault plan modules fault
      → ((guest : ℕ) → fault ≢ Open (NoEntry guest)) → IsJudgeFault plan modules report (start_fault fault)
  start_fails (Open fault) is found =
      never_told plan modules report (Open fault) is found (λ same. absurd (cc))
  start_fails starts.Memory is found = tt

  -- a journal that is none of the plan
  pub journal_fails : HasSomeModules plan modules report → (fault : JournalFault)
      → IsJournalFault plan modules report fault → IsJudgeFault plan modules report (journal_fault fault)
  journal_fails has (Line number) is = (has, is)
  journal_fails has Memory is = tt

  -- the modules and the journal
  pub to_journal : HasSomeModules plan modules report → (end : JournalState) → HasJournal plan modules report end
      → HoldsToJournal plan modules report end
  to_journal has end journal = record {
    listed = journal_has plan modules report end journal has;
    journal = journal;
  }

  module _ (end : JournalState) where
    -- the modules of a report whose journal holds
    pub some_modules : HoldsToJournal plan modules report end → HasSomeModules plan modules report
    some_modules before = (end.loaded, before.listed)

    pub to_guests : HoldsToJournal plan modules report end → HasScript plan report
        → HasGuests (course_of plan modules report end) report → HoldsToGuests plan modules report end
    to_guests before script guests =
        record { before = record { before = before; script = script }; guests = guests }

    -- as many guests as a plan may have
    pub few_guests : CanStart plan modules → HoldsToGuests plan modules report end → length report.guests ≤ GUESTS
    few_guests can before = omega (arith, before.guests.count, can.most_guests)

    pub to_logs : HoldsToGuests plan modules report end
        → OfEach report (HasItsLog (course_of plan modules report end)) → HoldsToLogs plan modules report end
    to_logs before logs = record { before = before; logs = logs }
