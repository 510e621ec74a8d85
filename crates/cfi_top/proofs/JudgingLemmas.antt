-- What is known of judging reports.
use Rattle.std.proofs.Common.{◌≡◌, ◌∙◌, ◌%◌, ◌==◌, ℕ, Bool, true, false, List, [], ◌∷◌, ◌++◌, length, Ok, inl, inr, refl, sym, ap, subst, if◌then◌else◌}
use Rattle.std.specs.Prelude.{◌≢◌, slice_get}
use Rattle.cfi_aux.specs.declared.modules.Module.{Module}
use Rattle.cfi_bare.specs.File.{IsBareFile}
use Rattle.cfi_plan.specs.Bare.{bare_plan}
use Rattle.cfi_plan.specs.declared.fault.PlanFault.{PlanFault}
use Rattle.cfi_plan.specs.declared.fault.PlanFault.TheVariants as plan_faults
use Rattle.cfi_plan.specs.declared.plan.Plan.{Plan}
use Rattle.cfi_plan.specs.Draft.{Fails}
use Rattle.cfi_plan.specs.Reading.{plan_in}
use Rattle.cfi_commands.specs.declared.fault.CommandFault.{CommandFault}
use Rattle.cfi_commands.specs.declared.fault.CommandFault.TheVariants.{File, Together, Memory}
use Rattle.cfi_commands.specs.declared.judge.ReportPart.{ReportPart}
use Rattle.cfi_commands.specs.declared.judge.ReportPart.TheVariants as parts
use Rattle.cfi_commands.specs.declared.refusal.Refusal.{Refusal}
use Rattle.cfi_commands.specs.declared.refusal.Refusal.TheVariants as refusals
use Rattle.cfi_commands.specs.Modules.{AreModuleFiles, IsModulesFault}
use Rattle.cfi_commands.specs.Reading.{IsFileFault}
use Rattle.cfi_commands.proofs.FileLemmas.{some_stands}
use Rattle.cfi_judge.specs.declared.fault.JudgeFault.{JudgeFault}
use Rattle.cfi_judge.specs.declared.fault.JudgeFault.TheVariants as judge_faults
use Rattle.cfi_judge.specs.Judge.{IsJudgeFault}
use Rattle.cfi_report.specs.declared.fault.ReportFault.{ReportFault}
use Rattle.cfi_report.specs.declared.fault.ReportFault.TheVariants as report_faults
use Rattle.cfi_report.specs.declared.report.Report.{Report}
use Rattle.cfi_report.specs.Report.{IsReport, IsCause, report_text}
use Rattle.cfi_request.specs.declared.command.Command.TheVariants as commands
use Rattle.cfi_request.specs.Plans.{begins_as_plan, files_of, judged_files, named_files_and}
use Rattle.cfi_valid.specs.Valid.{IsValidReport}
use Rattle.cfi_top.specs.declared.answer.Answer.{Answer}
use Rattle.cfi_top.specs.declared.answer.Answer.TheVariants as answers
use Rattle.cfi_top.specs.inner.Judging.{IsFileRefused, IsFoundJudged, IsReportRefused, IsTextJudged}
use Rattle.cfi_top.specs.Judging.{IsJudgement, IsValidText, RefusesJudging, RefusesReport, fault_of, valid_line}
use Rattle.cfi_top.specs.Opening.{IsNamedBad}
use Rattle.cfi_top.specs.Outcome.{IsWorked}
use Rattle.cfi_top.specs.Refused.{IsModuleRefused, plan_refused}
use Rattle.cfi_top.proofs.PlansLemmas.{file_at, found_at, plan_fault}

-- ---- a report

-- want of memory is no part
no_part : (part : ReportPart) → fault_of part ≡ judge_faults.Memory → ⊥
no_part parts.Modules same = absurd (cc)
no_part (parts.Journal line) same = absurd (cc)
no_part parts.Script same = absurd (cc)
no_part parts.Guests same = absurd (cc)
no_part (parts.Log guest) same = absurd (cc)
no_part (parts.Replay guest) same = absurd (cc)
no_part (parts.Steps guest) same = absurd (cc)

module _ (report : List ℕ) (plan : Plan) (modules : List Module) (text : List ℕ) where
  -- the text is none
  pub none_judged : (fault : ReportFault) (answer : Answer) → IsCause text fault → IsReportRefused report fault answer
      → IsTextJudged report plan modules text answer
  none_judged (report_faults.Syntax line) answer cause said =
      subst (IsTextJudged report plan modules text) (sym said) (refl, cause)
  none_judged report_faults.Memory answer cause said = absurd said

  module _ (found : Report) (is : IsReport found) (spelled : text ≡ report_text found) where
    -- the text is a valid one
    pub valid_judged : (answer : Answer) → answer ≡ answers.Print valid_line → IsValidReport plan modules found
        → IsTextJudged report plan modules text answer
    valid_judged answer said valid =
        subst (IsTextJudged report plan modules text) (sym said)
        (refl, record { report = found; is = is; spelled = spelled; valid = valid })

    -- the text is one with a part that is not valid
    pub part_judged : (part : ReportPart) (fault : JudgeFault) → fault_of part ≡ fault
        → IsJudgeFault plan modules found fault → (IsValidReport plan modules found → fault ≡ judge_faults.Memory)
        → IsTextJudged report plan modules text (answers.Refused report (refusals.Judge part))
    part_judged part fault same first only = (
      refl,
      record {
        report = found;
        is = is;
        spelled = spelled;
        invalid = λ valid. no_part part (same ∙ only valid);
        first = subst (IsJudgeFault plan modules found) (sym same) first;
      },
    )

-- ---- a plan

-- a file is no module
pub file_judged : (p : Plan) (files : List (List ℕ)) (fault : CommandFault) (answer : Answer)
    → IsModulesFault files fault → IsModuleRefused p.modules fault answer → IsFileRefused p files answer
file_judged p files (File number refusal) answer bad said =
    let one = found_at _ (slice_get p.modules number) said in
    let named = file_at p number one.0 one.1 in
    subst (IsFileRefused p files) (sym one.2) (record { number = number; named = named; first = bad })
file_judged p files (Together fault) answer bad said = absurd said
file_judged p files Memory answer bad said = absurd said

module _ (input report bytes : List ℕ) (others : List (List ℕ)) where
  -- what is no plan
  pub no_plan_judged : begins_as_plan bytes ≡ true → (fault : PlanFault) (answer : Answer) → Fails fault (plan_in bytes)
      → fault ≢ plan_faults.Memory → answer ≡ plan_refused input fault
      → IsWorked (commands.Judge input report) (bytes ∷ []) others answer
  no_plan_judged begins fault answer fails other said =
      subst (IsWorked (commands.Judge input report) (bytes ∷ []) others) (sym said)
      (begins, record { named = refl; is = plan_fault fault (plan_in bytes) other fails; some = other })

  module _ (begins : begins_as_plan bytes ≡ true) (found : Plan) (is : plan_in bytes ≡ Ok found)
      (files : List (List ℕ)) (text : List ℕ) (split : others ≡ files ++ text ∷ []) where
    -- no file of a module is refused so
    never : (name : List ℕ) (refusal : Refusal) → ((file : List ℕ) → IsFileFault file refusal → ⊥)
        → IsNamedBad (files_of found) files name refusal → ⊥
    never name refusal none bad =
        some_stands (λ file. IsFileFault file refusal) (slice_get files bad.number) none bad.first.here

    bad_refuses : (name : List ℕ) (refusal : Refusal) → IsNamedBad (files_of found) files name refusal
        → RefusesJudging input report bytes others name refusal
    bad_refuses name (refusals.Plan fault) bad = absurd (never name (refusals.Plan fault) (λ file it. it) bad)
    bad_refuses name (refusals.Bare fault) bad = absurd (never name (refusals.Bare fault) (λ file it. it) bad)
    bad_refuses name refusal bad = inl (record {
      files = files;
      text = text;
      split = split;
      plan = found;
      begins = begins;
      is = is;
      bad = bad;
    })

    module _ (modules : List Module) (are : AreModuleFiles files modules) where
      judgement : (P : Plan → List Module → (text : List ℕ) → Type 0) → P found modules text
          → IsJudgement P bytes others
      judgement P says = record {
        files = files;
        text = text;
        split = split;
        plan = found;
        modules = modules;
        plan_of = inl (record { begins = begins; is = is; are = are });
        says = says;
      }

      text_refuses : (name : List ℕ) (refusal : Refusal) → RefusesReport report found modules text name refusal
          → RefusesJudging input report bytes others name refusal
      text_refuses name (refusals.Plan fault) refuses = absurd refuses
      text_refuses name (refusals.Bare fault) refuses = absurd refuses
      text_refuses name refusal refuses =
          inr (judgement (λ plan ms t. RefusesReport report plan ms t name refusal) refuses)

      text_worked : (answer : Answer) → IsTextJudged report found modules text answer
          → IsWorked (commands.Judge input report) (bytes ∷ []) others answer
      text_worked (answers.Print said) r = (r.0, judgement IsValidText r.1)
      text_worked (answers.Refused name refusal) r = text_refuses name refusal r
      text_worked (answers.Ran it said) r = absurd r
      text_worked (answers.Save name file) r = absurd r
      text_worked answers.Usage r = absurd r
      text_worked (answers.Unread unread) r = absurd r

    bad_worked : (answer : Answer) → IsFileRefused found files answer
        → IsWorked (commands.Judge input report) (bytes ∷ []) others answer
    bad_worked (answers.Refused name refusal) bad = bad_refuses name refusal bad
    bad_worked (answers.Print said) bad = absurd bad
    bad_worked (answers.Ran it said) bad = absurd bad
    bad_worked (answers.Save name file) bad = absurd bad
    bad_worked answers.Usage bad = absurd bad
    bad_worked (answers.Unread unread) bad = absurd bad

    -- what a plan comes to
    pub plan_judged : (answer : Answer) → IsFoundJudged report found files text answer
        → IsWorked (commands.Judge input report) (bytes ∷ []) others answer
    plan_judged answer (inl r) = text_worked r.0 r.1 answer r.2
    plan_judged answer (inr bad) = bad_worked answer bad

  -- the files behind a plan
  pub behind_plan : begins_as_plan bytes ≡ true → length others ≡ length (judged_files bytes report)
      → length others ≡ length (named_files_and bytes report)
  behind_plan begins count =
      count
      ∙ ap (λ (b : Bool). length (if b then named_files_and bytes report
      else (if length bytes % 4 == 0 then report ∷ [] else []))) begins

  -- ---- a bare file

  -- behind it there is one
  pub behind_bare : begins_as_plan bytes ≡ false → length bytes % 4 ≡ 0
      → length others ≡ length (judged_files bytes report) → length others ≡ 1
  behind_bare begins whole count =
      count
      ∙ ap (λ (b : Bool). length (if b then named_files_and bytes report
      else (if length bytes % 4 == 0 then report ∷ [] else []))) begins
      ∙ ap (λ (n : ℕ). length (if n == 0 then report ∷ [] else [])) whole

  module _ (begins : begins_as_plan bytes ≡ false) (made : Module) (is : IsBareFile bytes made) (text : List ℕ)
      (one : others ≡ text ∷ []) where
    bare_judgement : (P : Plan → List Module → (text : List ℕ) → Type 0) → P bare_plan (made ∷ []) text
        → IsJudgement P bytes others
    bare_judgement P says = record {
      files = [];
      text = text;
      split = one;
      plan = bare_plan;
      modules = made ∷ [];
      plan_of = inr (record { begins = begins; plan_is = refl; made = made; is = is; modules_are = refl });
      says = says;
    }

    bare_text_refuses : (name : List ℕ) (refusal : Refusal)
        → RefusesReport report bare_plan (made ∷ []) text name refusal
        → RefusesJudging input report bytes others name refusal
    bare_text_refuses name (refusals.Plan fault) refuses = absurd refuses
    bare_text_refuses name (refusals.Bare fault) refuses = absurd refuses
    bare_text_refuses name refusal refuses =
        inr (bare_judgement (λ plan ms t. RefusesReport report plan ms t name refusal) refuses)

    -- what it comes to
    pub bare_judged : (answer : Answer) → IsTextJudged report bare_plan (made ∷ []) text answer
        → IsWorked (commands.Judge input report) (bytes ∷ []) others answer
    bare_judged (answers.Print said) r = (r.0, bare_judgement IsValidText r.1)
    bare_judged (answers.Refused name refusal) r = bare_text_refuses name refusal r
    bare_judged (answers.Ran it said) r = absurd r
    bare_judged (answers.Save name file) r = absurd r
    bare_judged answers.Usage r = absurd r
    bare_judged (answers.Unread unread) r = absurd r
