-- What is known of running a plan or a bare file.
use Rattle.std.proofs.Common.{◌≡◌, ◌∙◌, ℕ, zero, suc, true, false, List, [], ◌∷◌, length, Some, Result, Ok, Err, inl, inr, refl, sym, ap, subst}
use Rattle.std.specs.Prelude.{◌≢◌, codes, slice_get, IfOk}
use Rattle.std.proofs.lemmas.List.Elements.{All-nil, All-cons, All-weaker}
use Rattle.std.proofs.lemmas.Option.{slice_get_within}
use Rattle.cfi_aux.specs.declared.modules.Module.{Module}
use Rattle.cfi_bare.specs.File.{IsBareFile}
use Rattle.cfi_plan.specs.declared.fault.PlanFault.{PlanFault}
use Rattle.cfi_plan.specs.declared.fault.PlanFault.TheVariants as plan_faults
use Rattle.cfi_plan.specs.declared.plan.Plan.{Plan}
use Rattle.cfi_plan.specs.declared.plan.PlanModule.{PlanModule}
use Rattle.cfi_plan.specs.Bare.{bare_one, bare_plan}
use Rattle.cfi_plan.specs.Draft.{Fails}
use Rattle.cfi_plan.specs.Plan.{IsPlan, IsNamed}
use Rattle.cfi_plan.specs.Reading.{plan_in}
use Rattle.cfi_commands.specs.declared.refusal.Refusal.{Refusal}
use Rattle.cfi_commands.specs.declared.refusal.Refusal.TheVariants as refusals
use Rattle.cfi_guest_run.specs.Concluded.{Conclusion, HasReadableNames, IsConcluded}
use Rattle.cfi_ledger.specs.Opening.{IsOpenFault}
use Rattle.cfi_request.specs.declared.command.Command.TheVariants as commands
use Rattle.cfi_request.specs.Plans.{begins_as_plan, files_of}
use Rattle.cfi_report.specs.Report.{IsReport, report_text}
use Rattle.cfi_text.specs.Names.{is_name}
use Rattle.cfi_ledger.specs.declared.fault.OpenFault.{OpenFault}
use Rattle.cfi_ledger.specs.declared.fault.OpenFault.TheVariants as opens
use Rattle.cfi_top.specs.declared.answer.Answer.{Answer}
use Rattle.cfi_top.specs.declared.answer.Answer.TheVariants as answers
use Rattle.cfi_top.specs.inner.Running.{IsPlanRun, IsBareRun}
use Rattle.cfi_top.specs.Outcome.{IsWorked}
use Rattle.cfi_top.specs.Refused.{IsOpenAmong, bare_refused, plan_refused}
use Rattle.cfi_top.specs.Running.{RefusesStart, RefusesRunOf, RefusesPlanFile}
use Rattle.cfi_top.proofs.OpeningLemmas.{IsRefused, never_plan}
use Rattle.cfi_top.proofs.PlansLemmas.{plan_fault}

-- the fault of opening is of one of the plan's modules
pub open_among : (plan : Plan) (modules : List Module) (lines : List PlanModule) (fault : OpenFault)
    → lines ≡ plan.modules → IsOpenFault plan modules fault → IsOpenAmong (length lines) fault
open_among plan modules lines (opens.Place number fault) same first =
    slice_get_within lines number first.line (ap (λ (ls : List PlanModule). slice_get ls number) same ∙ first.line_is)
open_among plan modules lines (opens.Verify number fault) same first =
    slice_get_within lines number first.line (ap (λ (ls : List PlanModule). slice_get ls number) same ∙ first.line_is)
open_among plan modules lines (opens.NoEntry guest) same first = tt

-- ---- names

pub plan_names : (plan : Plan) → IsPlan plan → HasReadableNames plan
plan_names plan is = record {
  modules = All-weaker IsNamed (λ (one : PlanModule). is_name one.name ≡ true) (λ one named. named.0) plan.modules
      is.modules.named;
  guests = is.guests.named;
}

bare_names : HasReadableNames bare_plan
unfolding is_name
bare_names = record {
  modules = All-cons (λ (one : PlanModule). is_name one.name ≡ true) bare_one [] refl
      (All-nil (λ (one : PlanModule). is_name one.name ≡ true));
  guests = All-cons (λ entry. is_name entry ≡ true) (codes "bare") [] refl (All-nil (λ entry. is_name entry ≡ true));
}

pub readable : (run : Conclusion) (plan : Plan) → IsConcluded run → run.plan ≡ plan → HasReadableNames plan
    → IsReport run.report
readable run plan concluded same names = concluded.readable (subst HasReadableNames (sym same) names)

-- ---- a plan

-- a refusal of the modules of a plan is what running it comes to
pub refused_run : (input : List ℕ) (found : Plan) (files : List (List ℕ)) (answer : Answer)
    → IsRefused input found files (RefusesStart input (files_of found) found) answer
    → IsPlanRun input found files answer
refused_run input found files (answers.Refused name refusal) refused = refused
refused_run input found files (answers.Ran it text) refused = absurd refused
refused_run input found files (answers.Print text) refused = absurd refused
refused_run input found files (answers.Save name file) refused = absurd refused
refused_run input found files answers.Usage refused = absurd refused
refused_run input found files (answers.Unread unread) refused = absurd refused

module _ (input bytes : List ℕ) (files : List (List ℕ)) where
  module _ (begins : begins_as_plan bytes ≡ true) where
    -- what is no plan
    pub no_plan_run : (fault : PlanFault) (answer : Answer) → Fails fault (plan_in bytes) → fault ≢ plan_faults.Memory
        → answer ≡ plan_refused input fault → IsWorked (commands.Run input) (bytes ∷ []) files answer
    no_plan_run fault answer fails other said =
        subst (IsWorked (commands.Run input) (bytes ∷ []) files) (sym said)
        (inl (begins, record { named = refl; is = plan_fault fault (plan_in bytes) other fails; some = other }))

    module _ (found : Plan) (is : plan_in bytes ≡ Ok found) (sound : IsPlan found) where
      refuses : (name : List ℕ) (refusal : Refusal) → RefusesRunOf input found files name refusal
          → RefusesPlanFile input bytes files name refusal
      refuses name (refusals.Plan fault) refused =
          absurd (never_plan (RefusesStart input (files_of found) found) (files_of found) files name
          (refusals.Plan fault) (λ modules it. it) (λ text it. it) refused)
      refuses name refusal refused = (found, is, refused)

      pub plan_run : (answer : Answer) → IsPlanRun input found files answer
          → IsWorked (commands.Run input) (bytes ∷ []) files answer
      plan_run (answers.Ran run text) r = (
        r.spelled,
        record {
          plan_of = inl (record {
            begins = begins;
            is = is ∙ ap (λ (p : Plan). Ok p) (sym r.plan_is);
            are = r.modules_are;
          });
          concluded = r.concluded;
          readable = readable run found r.concluded r.plan_is (plan_names found sound);
        },
      )
      plan_run (answers.Refused name refusal) r = inl (begins, refuses name refusal r)
      plan_run (answers.Print text) r = absurd r
      plan_run (answers.Save name file) r = absurd r
      plan_run answers.Usage r = absurd r
      plan_run (answers.Unread unread) r = absurd r

  -- ---- a bare file

  pub bare_run : begins_as_plan bytes ≡ false → (answer : Answer) → IsBareRun input bytes answer
      → IsWorked (commands.Run input) (bytes ∷ []) files answer
  bare_run begins (answers.Ran run text) r = (
    r.spelled,
    record {
      plan_of = inr (record {
        begins = begins;
        plan_is = r.plan_is;
        made = r.modules_are.0;
        is = r.modules_are.1;
        modules_are = r.modules_are.2;
      });
      concluded = r.concluded;
      readable = readable run bare_plan r.concluded r.plan_is bare_names;
    },
  )
  bare_run begins (answers.Refused name refusal) r = inr (begins, r)
  bare_run begins (answers.Print text) r = absurd r
  bare_run begins (answers.Save name file) r = absurd r
  bare_run begins answers.Usage r = absurd r
  bare_run begins (answers.Unread unread) r = absurd r

-- its plan has one module
one_module : (input : List ℕ) (number : ℕ) (line : PlanModule) → slice_get bare_plan.modules number ≡ Some line
    → slice_get (input ∷ []) number ≡ Some input
one_module input zero line is = refl
one_module input (suc number) line is = absurd (cc)

module _ (input bytes : List ℕ) (made : Module) (is : IsBareFile bytes made) where
  -- its module is refused
  pub bare_refuses : (fault : OpenFault) → IsOpenFault bare_plan (made ∷ []) fault
      → IsBareRun input bytes (bare_refused input fault)
  bare_refuses (opens.Place number fault) first =
      (made, is, record { number = number; named = one_module input number first.line first.line_is; stands = first })
  bare_refuses (opens.Verify number fault) first =
      (made, is, record { number = number; named = one_module input number first.line first.line_is; stands = first })
  bare_refuses (opens.NoEntry guest) first = (made, is, (refl, first))

  -- its run was concluded
  pub bare_ran : (modules : List Module) → modules ≡ made ∷ [] → (run : Conclusion) → run.plan ≡ bare_plan
      → run.modules ≡ modules → {E : Type 0} (result : Result Answer E)
      → IfOk result (λ answer. answer ≡ answers.Ran run (report_text run.report)) → IfOk result (λ _. IsConcluded run)
      → IfOk result (IsBareRun input bytes)
  bare_ran modules same run plan_is modules_are (Ok answer) said law =
      subst (IsBareRun input bytes) (sym said) (record {
        spelled = refl;
        concluded = law;
        plan_is = plan_is;
        modules_are = (made, is, modules_are ∙ same);
      })
  bare_ran modules same run plan_is modules_are (Err fault) said law = tt
