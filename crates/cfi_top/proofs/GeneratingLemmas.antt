-- What is known of running drawn modules.
use Rattle.std.proofs.Common.{◌≡◌, ◌∙◌, ℕ, List, [], length, Ok, inl, inr, refl, sym, ap, subst}
use Rattle.std.specs.Prelude.{◌≢◌, slice_get}
use Rattle.cfi_commands.specs.declared.fault.CommandFault.{CommandFault}
use Rattle.cfi_commands.specs.declared.fault.CommandFault.TheVariants.{File, Together, Memory}
use Rattle.cfi_commands.specs.Files.{IsFilesFault}
use Rattle.cfi_gen.specs.Plan.{plan_text}
use Rattle.cfi_guest_run.specs.Concluded.{Conclusion}
use Rattle.cfi_gen.specs.Generated.{AreGenerated, IsGenerateFault}
use Rattle.cfi_gen.specs.Measure.{IsMeasure}
use Rattle.cfi_request.specs.declared.command.Command.TheVariants as commands
use Rattle.cfi_plan.specs.declared.plan.Plan.{Plan}
use Rattle.cfi_plan.specs.declared.plan.PlanModule.{PlanModule}
use Rattle.cfi_plan.specs.Plan.{IsPlan}
use Rattle.cfi_plan.specs.Reading.{plan_in}
use Rattle.cfi_gen.specs.declared.summary_text.Measure.{Measure}
use Rattle.cfi_top.specs.declared.answer.Answer.{Answer}
use Rattle.cfi_top.specs.declared.answer.Answer.TheVariants as answers
use Rattle.cfi_top.specs.Generating.{plan_name}
use Rattle.cfi_top.specs.Outcome.{IsWorked}
use Rattle.cfi_top.specs.Refused.{IsAmong, IsModuleRefused}
use Rattle.cfi_top.specs.inner.Generating.{IsOfSource, IsSourceRefused, summed}
use Rattle.cfi_top.specs.inner.Running.{IsPlanRun}
use Rattle.cfi_top.proofs.PlansLemmas.{among, found_at, file_at}
use Rattle.cfi_top.proofs.RunLemmas.{plan_names, readable}

-- a fault of generating is of one source
pub source_of : (seed count : ℕ) (fault : CommandFault) → IsGenerateFault seed count fault → IsOfSource fault
source_of seed count (File number refusal) first = tt
source_of seed count (Together fault) first = absurd first
source_of seed count Memory first = tt

-- what is no run has no summary
pub other_summed : (seed count : ℕ) (measure : Measure) (answer : Answer)
    → ((run : Conclusion) (text : List ℕ) → answer ≢ answers.Ran run text) → answer ≡ summed seed count measure answer
other_summed seed count measure (answers.Ran run text) other = absurd (other run text refl)
other_summed seed count measure (answers.Print text) other = refl
other_summed seed count measure (answers.Save name file) other = refl
other_summed seed count measure answers.Usage other = refl
other_summed seed count measure (answers.Unread unread) other = refl
other_summed seed count measure (answers.Refused name refusal) other = refl

-- a fault of the files is of one of the plan's modules
pub among_lines : (plan : Plan) (files : List (List ℕ)) (lines : List PlanModule) (fault : CommandFault)
    → length files ≡ length plan.modules → lines ≡ plan.modules → IsFilesFault plan.code_words files fault
    → IsAmong (length lines) fault
among_lines plan files lines fault count same bad =
    subst (λ (n : ℕ). IsAmong n fault) (count ∙ sym (ap (λ (ms : List PlanModule). length ms) same))
    (among plan.code_words files fault bad)

module _ (seed count : ℕ) where
  -- what drawing so many of a seed comes to
  abbrev pub Comes : Answer → Type 0
  Comes answer = IsWorked (commands.Gen seed count) [] [] answer

  -- whatever files are said to be read
  pub gen_any : (files more : List (List ℕ)) (answer : Answer) → Comes answer
      → IsWorked (commands.Gen seed count) files more answer
  gen_any files more (answers.Ran run text) is = is
  gen_any files more (answers.Print text) is = absurd is
  gen_any files more (answers.Save name file) is = absurd is
  gen_any files more answers.Usage is = absurd is
  gen_any files more (answers.Unread unread) is = absurd is
  gen_any files more (answers.Refused name refusal) is = is

  -- a source is refused
  pub source_refused : (fault : CommandFault) (answer : Answer) → IsGenerateFault seed count fault
      → IsSourceRefused fault answer → Comes answer
  source_refused (File number refusal) answer first said =
      subst Comes (sym said) (inl (record { number = number; named = refl; first = first }))
  source_refused (Together fault) answer first said = absurd said
  source_refused Memory answer first said = absurd said

  module _ (plan : Plan) (files : List (List ℕ)) (is : plan_in (plan_text count) ≡ Ok plan)
      (generated : AreGenerated seed count files) where
    -- the files are out of order
    pub files_refused : (fault : CommandFault) (answer : Answer) → IsFilesFault plan.code_words files fault
        → IsModuleRefused plan.modules fault answer → Comes answer
    files_refused (File number refusal) answer first said =
        let one = found_at _ (slice_get plan.modules number) said in
        subst Comes (sym one.2) (inr (record {
          files = files;
          generated = generated;
          plan = plan;
          is = is;
          why = inl (record { number = number; named = file_at plan number one.0 one.1; first = first });
        }))
    files_refused (Together fault) answer first said = absurd said
    files_refused Memory answer first said = absurd said

    -- they are run, or their plan is not opened
    pub run_summed : (measure : Measure) → IsPlan plan → IsMeasure plan.code_words files measure → (answer : Answer)
        → IsPlanRun plan_name plan files answer → Comes (summed seed count measure answer)
    run_summed measure sound measured (answers.Ran run text) ran = record {
      files = files;
      generated = generated;
      plan_is = subst (λ (p : Plan). plan_in (plan_text count) ≡ Ok p) (sym ran.plan_is) is;
      modules_are = ran.modules_are;
      concluded = ran.concluded;
      readable = readable run plan ran.concluded ran.plan_is (plan_names plan sound);
      measure = measure;
      measured = subst (λ (p : Plan). IsMeasure p.code_words files measure) (sym ran.plan_is) measured;
      spelled = refl;
    }
    run_summed measure sound measured (answers.Refused name refusal) refused =
        inr (record { files = files; generated = generated; plan = plan; is = is; why = inr refused })
    run_summed measure sound measured (answers.Print text) ran = absurd ran
    run_summed measure sound measured (answers.Save name file) ran = absurd ran
    run_summed measure sound measured answers.Usage ran = absurd ran
    run_summed measure sound measured (answers.Unread unread) ran = absurd ran
