-- What is known of the files of a plan.
use Rattle.std.proofs.Common.{◌≡◌, ◌∙◌, ℕ, List, [], ◌∷◌, length, Option, Some, None, Result, Ok, Err, refl, sym, ap, subst}
use Rattle.std.proofs.lemmas.List.{length-map}
use Rattle.std.specs.Prelude.{◌≢◌, slice_get, IsSomeAnd, option_map}
use Rattle.std.proofs.lemmas.Option.{slice_get-map}
use Rattle.cfi_plan.specs.declared.plan.Plan.{Plan}
use Rattle.cfi_plan.specs.declared.plan.PlanModule.{PlanModule}
use Rattle.cfi_plan.specs.declared.fault.PlanFault.{PlanFault}
use Rattle.cfi_plan.specs.declared.fault.PlanFault.TheVariants as plan_faults
use Rattle.cfi_plan.specs.Draft.{Fails}
use Rattle.cfi_plan.specs.Reading.{plan_in}
use Rattle.cfi_commands.specs.declared.refusal.Refusal.{Refusal}
use Rattle.cfi_commands.specs.declared.refusal.Refusal.TheVariants as refusals
use Rattle.cfi_commands.specs.declared.fault.CommandFault.{CommandFault}
use Rattle.cfi_commands.specs.declared.fault.CommandFault.TheVariants.{File, Together, Memory}
use Rattle.cfi_commands.specs.Files.{IsFilesFault}
use Rattle.cfi_commands.proofs.FileLemmas.{some_stands, fault_within}
use Rattle.cfi_top.specs.declared.answer.Answer.{Answer}
use Rattle.cfi_top.specs.declared.answer.Answer.TheVariants as answers
use Rattle.cfi_request.specs.declared.command.Command.TheVariants as commands
use Rattle.cfi_top.specs.Outcome.{RefusesPlan, IsWorked}
use Rattle.cfi_request.specs.Plans.{files_in, files_of, named_files}
use Rattle.cfi_top.specs.Refused.{IsAmong, IsModuleRefused, plan_refused}

-- the files that the bytes of a plan name are the plan's
pub named_of : (bytes : List ℕ) (plan : Plan) → plan_in bytes ≡ Ok plan → named_files bytes ≡ files_of plan
named_of bytes plan is = ap files_in is

-- there are as many as modules
pub named_count : (bytes : List ℕ) (plan : Plan) → plan_in bytes ≡ Ok plan
    → length (named_files bytes) ≡ length plan.modules
named_count bytes plan is =
    ap (λ (names : List (List ℕ)). length names) (named_of bytes plan is)
    ∙ length-map plan.modules (λ (one : PlanModule). one.file)

-- what holds of an item that is there
pub found_at : {X : Type 0} (P : X → Type 0) (found : Option X) → IsSomeAnd found P → (x : X) × (found ≡ Some x) × P x
found_at P None some = absurd some
found_at P (Some x) some = (x, refl, some)

-- the file of a module of a plan
pub file_at : (p : Plan) (number : ℕ) (one : PlanModule) → slice_get p.modules number ≡ Some one
    → slice_get (files_of p) number ≡ Some one.file
file_at p number one here =
    slice_get-map (λ (m : PlanModule). m.file) p.modules number
    ∙ ap (option_map (λ (m : PlanModule). m.file)) here

-- the fault of files is of one of them
pub among : (code_words : ℕ) (files : List (List ℕ)) (fault : CommandFault) → IsFilesFault code_words files fault
    → IsAmong (length files) fault
among code_words files (File number refusal) bad = fault_within code_words files number refusal bad
among code_words files (Together fault) bad = bad
among code_words files Memory bad = tt

-- ... so it is of one of the plan's modules
pub among_modules : (bytes : List ℕ) (plan : Plan) (files : List (List ℕ)) (modules : List PlanModule)
    (fault : CommandFault) → plan_in bytes ≡ Ok plan → length files ≡ length (named_files bytes)
    → modules ≡ plan.modules → IsFilesFault plan.code_words files fault → IsAmong (length modules) fault
among_modules bytes plan files modules fault is count same bad =
    let all : length files ≡ length modules =
    count ∙ named_count bytes plan is ∙ sym (ap (λ (ms : List PlanModule). length ms) same) in
    subst (λ (n : ℕ). IsAmong n fault) all (among plan.code_words files fault bad)

-- ---- refusals that stand

-- a fault of a plan that is no want of memory is what is due
pub plan_fault : {Y : Type 0} (fault : PlanFault) (due : Result Y PlanFault) → fault ≢ plan_faults.Memory → Fails fault due
    → due ≡ Err fault
plan_fault (plan_faults.Syntax line) due other fails = fails
plan_fault (plan_faults.Limit line) due other fails = fails
plan_fault plan_faults.NoGuest due other fails = fails
plan_fault plan_faults.Memory due other fails = absurd (other refl)

-- what is no plan names no files
pub no_files : (bytes : List ℕ) (fault : PlanFault) → fault ≢ plan_faults.Memory → Fails fault (plan_in bytes)
    → named_files bytes ≡ []
no_files bytes fault other fails = ap files_in (plan_fault fault (plan_in bytes) other fails)

module _ (plan bytes : List ℕ) (files : List (List ℕ)) where
  -- the answer is a refusal that stands in the plan or its files
  abbrev pub Stands : Answer → Type 0
  Stands (answers.Refused name refusal) = RefusesPlan plan bytes files name refusal
  Stands answer = ⊥

  -- what is no plan
  pub plan_stands : (fault : PlanFault) (answer : Answer) → Fails fault (plan_in bytes) → fault ≢ plan_faults.Memory
      → answer ≡ plan_refused plan fault → Stands answer
  plan_stands fault answer fails other said =
      subst Stands (sym said)
      (record { named = refl; is = plan_fault fault (plan_in bytes) other fails; some = other })

  -- of a plan the file of a module
  module _ (p : Plan) (is : plan_in bytes ≡ Ok p) where
    file_stands : (number : ℕ) (one : PlanModule) (refusal : Refusal) → slice_get p.modules number ≡ Some one
        → IsFilesFault p.code_words files (File number refusal) → RefusesPlan plan bytes files one.file refusal
    file_stands number one (refusals.Plan fault) here first =
        absurd (some_stands _ (slice_get files number) (λ bytes is. is) first.here)
    file_stands number one refusal here first =
        record { plan = p; is = is; number = number; named = file_at p number one here; first = first }

    pub files_stand : (fault : CommandFault) (answer : Answer) → IsFilesFault p.code_words files fault
        → IsModuleRefused p.modules fault answer → Stands answer
    files_stand (File number refusal) answer first said =
        let one = found_at _ (slice_get p.modules number) said in
        subst Stands (sym one.2) (file_stands number one.0 refusal one.1 first)
    files_stand (Together fault) answer first said = absurd said
    files_stand Memory answer first said = absurd said

  -- it is what the commands on plans come to
  pub verify_stands : (answer : Answer) → Stands answer → IsWorked (commands.Verify plan) (bytes ∷ []) files answer
  verify_stands (answers.Refused name refusal) stands = stands
  verify_stands (answers.Ran it text) stands = absurd stands
  verify_stands (answers.Print text) stands = absurd stands
  verify_stands (answers.Save name file) stands = absurd stands
  verify_stands answers.Usage stands = absurd stands
  verify_stands (answers.Unread unread) stands = absurd stands

  pub graph_stands : (answer : Answer) → Stands answer → IsWorked (commands.Graph plan) (bytes ∷ []) files answer
  graph_stands (answers.Refused name refusal) stands = stands
  graph_stands (answers.Ran it text) stands = absurd stands
  graph_stands (answers.Print text) stands = absurd stands
  graph_stands (answers.Save name file) stands = absurd stands
  graph_stands answers.Usage stands = absurd stands
  graph_stands (answers.Unread unread) stands = absurd stands
