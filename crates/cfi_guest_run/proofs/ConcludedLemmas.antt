-- What a run has come to, from its ledger and its guests' parts.
use Rattle.std.proofs.Common.{◌≡◌, ℕ, suc, true, List, [], ◌∷◌, Some, length, map, slice_get, refl, sym, ap, subst, ◌∙◌, arith}
use Rattle.std.specs.List.{AllByRecursion}
use Rattle.std.proofs.lemmas.Option.{get_or_from_slice_get, slice_get_within}
use Rattle.cfi_aux.specs.declared.modules.Module.{Module}
use Rattle.cfi_loader.specs.Ledger.{Ledger, IsLedger}
use Rattle.cfi_guest_part.specs.Ran.{IsHistoryOf, IsRunOf}
use Rattle.cfi_guest_part.proofs.ReadLemmas.{CanBeRead, told_kept}
use Rattle.cfi_loader.specs.Epochs.{HavePoliciesOf}
use Rattle.cfi_plan.specs.declared.journal.Entry.{Entry}
use Rattle.cfi_plan.specs.declared.journal.ModuleLine.{ModuleLine}
use Rattle.cfi_plan.specs.declared.plan.Plan.{Plan}
use Rattle.cfi_report.specs.declared.report.GuestPart.{GuestPart}
use Rattle.cfi_report.specs.declared.report.Report.{Report}
use Rattle.cfi_report.specs.Report.{IsReport}
use Rattle.cfi_slips.specs.Lines.{lines_of}
use Rattle.cfi_tables.specs.Key.{Key}
use Rattle.cfi_text.specs.Names.{is_name}
use Rattle.cfi_valid.specs.Course.{Course, IsCourse}
use Rattle.cfi_valid.specs.Loaded.{module_line_of}
use Rattle.cfi_valid.specs.Script.{made_by_script, script_calls}
use Rattle.cfi_valid.specs.Valid.{IsEnded, IsValidReport, course_of}
use Rattle.cfi_valid.proofs.PartsLemmas.{valid_by}
use Rattle.cfi_guest_run.specs.Answered.{AreAnswered}
use Rattle.cfi_guest_run.specs.Concluded.{HasReadableNames, IsConcluded, conclusion_of}
use Rattle.cfi_guest_run.specs.Ending.{code_by, history_by, tables_by}
use Rattle.cfi_guest_run.specs.inner.Ending.{ArePartsAt, HasNumbers}
use Rattle.cfi_guest_run.proofs.HistoryLemmas.{history_is}
use Rattle.cfi_loader.proofs.NumberLemmas.{journal_below}
use Rattle.cfi_guest_run.proofs.NameLemmas.{lines_named}
use Rattle.cfi_guest_run.proofs.ReadableLemmas.{report_read}

-- what holds at each place holds of each
all_at : (P : GuestPart → Type 0) (parts : List GuestPart)
    → ((number : ℕ) (part : GuestPart) → slice_get parts number ≡ Some part → P part) → AllByRecursion P parts
all_at P [] each = tt
all_at P (part ∷ parts) each = (each 0 part refl, all_at P parts (λ number x there. each (suc number) x there))

module _ (k : Key) (plan : Plan) (modules : List Module) (l : Ledger) (is : IsLedger k plan modules l)
    (made : made_by_script l.course.journal ≡ script_calls plan.script) (report : Report) (numbers : HasNumbers report)
    (epoch : report.epoch ≡ l.course.end.epoch) (policy : report.policy ≡ l.course.end.policy)
    (lines : report.modules ≡ map (module_line_of plan.modules) l.course.end.loaded)
    (journal : report.journal ≡ l.course.journal) (count : length report.guests ≡ length plan.guests)
    (parts : ArePartsAt k l report.guests) where
  abbrev course : Course
  course = course_of plan modules report l.course.end

  same : l.course ≡ course
  same = λ i. record {
    plan = is.plan_is i;
    modules = is.modules_are i;
    journal = (sym journal) i;
    end = l.course.end;
  }

  course_is : IsCourse course
  course_is = subst IsCourse same is.course

  ended : (number : ℕ) (part : GuestPart) → slice_get report.guests number ≡ Some part → IsEnded course number part
  ended number part there =
      subst (λ (c : Course). IsEnded c number part) same (parts.each number part there).ended

  abbrev valid : IsValidReport plan modules report
  valid =
      valid_by plan modules report l.course.end course_is epoch policy lines (ap made_by_script journal ∙ made) count
      ended

  ran : (number : ℕ) (part : GuestPart) → slice_get report.guests number ≡ Some part
      → IsRunOf course (tables_by k l) (history_by k l) (code_by k l) number part
  ran number part there =
      subst (λ (c : Course). IsRunOf c (tables_by k l) (history_by k l) (code_by k l) number part) same
      (parts.each number part there).run

  -- the report can be read
  entry_named : HasReadableNames plan → (number : ℕ) (entry : List ℕ) → slice_get plan.guests number ≡ Some entry
      → is_name entry ≡ true
  entry_named names number entry there =
      subst (λ (name : List ℕ). is_name name ≡ true) (get_or_from_slice_get plan.guests number entry entry there)
      (names.guests number entry (slice_get_within plan.guests number entry there))

  can_be_read : HasReadableNames plan → (number : ℕ) (part : GuestPart) → slice_get report.guests number ≡ Some part
      → CanBeRead part
  can_be_read names number part there =
      let of = ended number part there in
      record {
        kept = told_kept course (tables_by k l) (history_by k l) (code_by k l) number part (ran number part there);
        stopped = of.replay.stopped;
        named = entry_named names number part.entry of.guest.entry;
      }

  many : length modules ≡ length plan.modules
  many =
      sym (ap (λ (ms : List Module). length ms) is.modules_are)
      ∙ (is.can_start.count ∙ ap (λ (p : Plan). length p.modules) is.plan_is)

  read : HasReadableNames plan → IsReport report
  read names =
      report_read report numbers
      (subst (AllByRecursion (λ (m : ModuleLine). is_name m.name ≡ true)) (sym lines)
      (lines_named plan names l.course.end.loaded
      (journal_below plan modules (length plan.modules) (omega (arith, many)) report.journal l.course.end course_is (omega arith))))
      parts.fields (all_at CanBeRead report.guests (can_be_read names))

  pub concluded : IsConcluded (conclusion_of plan modules report)
  concluded = record {
    valid = valid;
    tables = tables_by k l;
    epochs = subst (λ (lines : List Entry). HavePoliciesOf lines l.keeping.entries) (sym journal) is.told.epochs;
    history = history_by k l;
    code = code_by k l;
    of = subst (λ (c : Course). IsHistoryOf c (tables_by k l) (history_by k l) (code_by k l)) same
        (history_is k plan modules l is);
    runs = ran;
    opens = λ number part there.
        subst (λ (lines : List Entry). AreAnswered part.log (lines_of number lines)) (sym journal)
        (parts.opens number part there);
    readable = read;
  }
