-- What is known of simulating a plan.
use Rattle.std.proofs.Common.{◌≡◌, ◌∙◌, ◌+◌, ◌<◌, ℕ, List, [], ◌∷◌, ◌++◌, length, Ok, inr, refl, sym, ap, subst, arith, length-append}
use Rattle.std.proofs.lemmas.Option.{slice_get_within}
use Rattle.std.specs.Prelude.{◌≢◌}
use Rattle.cfi_aux.specs.declared.modules.Module.{Module}
use Rattle.cfi_plan.specs.declared.fault.PlanFault.{PlanFault}
use Rattle.cfi_plan.specs.declared.fault.PlanFault.TheVariants as plan_faults
use Rattle.cfi_plan.specs.declared.plan.Plan.{Plan}
use Rattle.cfi_plan.specs.declared.plan.PlanModule.{PlanModule}
use Rattle.cfi_plan.specs.Draft.{Fails}
use Rattle.cfi_plan.specs.Reading.{plan_in}
use Rattle.cfi_commands.specs.declared.refusal.Refusal.{Refusal}
use Rattle.cfi_commands.specs.declared.refusal.Refusal.TheVariants as refusals
use Rattle.cfi_commands.specs.Modules.{AreModuleFiles}
use Rattle.cfi_request.specs.declared.command.Command.TheVariants as commands
use Rattle.cfi_request.specs.Plans.{files_of, files_and, named_files_and}
use Rattle.cfi_ledger.specs.declared.fault.OpenFault.{OpenFault}
use Rattle.cfi_ledger.specs.declared.fault.OpenFault.TheVariants as opens
use Rattle.cfi_sim.specs.declared.fault.SimFault.{SimFault}
use Rattle.cfi_sim.specs.declared.fault.SimFault.TheVariants.{Open, BadEvent, Memory}
use Rattle.cfi_sim.specs.Fault.{IsSimFault}
use Rattle.cfi_top.specs.declared.answer.Answer.{Answer}
use Rattle.cfi_top.specs.declared.answer.Answer.TheVariants as answers
use Rattle.cfi_top.specs.inner.Simulating.{IsSimAmong, IsSimRefused, IsSimulated}
use Rattle.cfi_top.specs.Opening.{RefusesOpening}
use Rattle.cfi_top.specs.Outcome.{IsWorked}
use Rattle.cfi_top.specs.Refused.{plan_refused}
use Rattle.cfi_top.specs.Simulating.{RefusesSim, RefusesSimOf, RefusesSimulation}
use Rattle.cfi_top.proofs.OpeningLemmas.{IsRefused, never_plan, opening_refused}
use Rattle.cfi_top.proofs.PlansLemmas.{plan_fault}
use Rattle.std.proofs.lemmas.List.{length-map}

-- the fault of a simulation is of one of the plan's modules, or of none
pub sim_among : (found : Plan) (modules : List Module) (schedule : List ℕ) (fault : SimFault)
    → IsSimFault found modules schedule fault → IsSimAmong (length found.modules) fault
sim_among found modules schedule (Open (opens.Place number fault)) stands =
    slice_get_within found.modules number stands.line stands.line_is
sim_among found modules schedule (Open (opens.Verify number fault)) stands =
    slice_get_within found.modules number stands.line stands.line_is
sim_among found modules schedule (Open (opens.NoEntry guest)) stands = tt
sim_among found modules schedule (BadEvent line) stands = tt
sim_among found modules schedule Memory stands = tt

module _ (plan schedule : List ℕ) (found : Plan) (files : List (List ℕ)) (text : List ℕ) where
  abbrev P : List Module → (name : List ℕ) → Refusal → Type 0
  P = RefusesSim plan schedule found text

  -- a refusal of the modules of a plan is what simulating it comes to
  pub refused_sim : (answer : Answer) → IsRefused plan found files P answer
      → IsSimulated plan schedule found files text answer
  refused_sim (answers.Refused name refusal) refused = refused
  refused_sim (answers.Ran it said) refused = absurd refused
  refused_sim (answers.Print said) refused = absurd refused
  refused_sim (answers.Save name file) refused = absurd refused
  refused_sim answers.Usage refused = absurd refused
  refused_sim (answers.Unread unread) refused = absurd refused

  module _ (modules : List Module) (are : AreModuleFiles files modules) where
    abbrev HasFault : OpenFault → Type 0
    HasFault fault = IsSimFault found modules text (Open fault)

    opened : (name : List ℕ) (refusal : Refusal) → RefusesOpening HasFault plan (files_of found) name refusal
        → P modules name refusal
    opened name (refusals.Sim line) refuses = absurd refuses
    opened name refusal refuses = refuses

    -- so is a fault of the simulation
    pub fault_sim : (fault : SimFault) (answer : Answer) → IsSimFault found modules text fault
        → IsSimRefused plan schedule found.modules fault answer → IsSimulated plan schedule found files text answer
    fault_sim (Open fault) answer stands said =
        refused_sim answer
        (opening_refused plan found files P modules are HasFault opened fault answer stands said)
    fault_sim (BadEvent line) answer stands said =
        subst (IsSimulated plan schedule found files text) (sym said) (inr (modules, are, (refl, stands)))
    fault_sim Memory answer stands said = absurd said

module _ (plan schedule bytes : List ℕ) (others : List (List ℕ)) where
  -- what is no plan
  pub no_plan_sim : (fault : PlanFault) (answer : Answer) → Fails fault (plan_in bytes) → fault ≢ plan_faults.Memory
      → answer ≡ plan_refused plan fault → IsWorked (commands.Sim plan schedule) (bytes ∷ []) others answer
  no_plan_sim fault answer fails other said =
      subst (IsWorked (commands.Sim plan schedule) (bytes ∷ []) others) (sym said)
      (record { named = refl; is = plan_fault fault (plan_in bytes) other fails; some = other })

  module _ (found : Plan) (is : plan_in bytes ≡ Ok found) (files : List (List ℕ)) (text : List ℕ)
      (split : others ≡ files ++ text ∷ []) where
    refuses : (name : List ℕ) (refusal : Refusal) → RefusesSimOf plan schedule found files text name refusal
        → RefusesSimulation plan schedule bytes others name refusal
    refuses name (refusals.Plan fault) refused =
        absurd (never_plan (RefusesSim plan schedule found text) (files_of found) files name (refusals.Plan fault)
        (λ modules it. it) (λ file it. it) refused)
    refuses name refusal refused =
        record { plan = found; is = is; files = files; schedule = text; split = split; says = refused }

    pub plan_sim : (answer : Answer) → IsSimulated plan schedule found files text answer
        → IsWorked (commands.Sim plan schedule) (bytes ∷ []) others answer
    plan_sim (answers.Print said) r =
        record { plan = found; is = is; files = files; schedule = text; split = split; says = r }
    plan_sim (answers.Refused name refusal) r = refuses name refusal r
    plan_sim (answers.Ran it said) r = absurd r
    plan_sim (answers.Save name file) r = absurd r
    plan_sim answers.Usage r = absurd r
    plan_sim (answers.Unread unread) r = absurd r

    -- there is a file for each module
    pub sim_count : length others ≡ length (named_files_and bytes schedule) → length files ≡ length found.modules
    sim_count count =
        let all : length others ≡ length files + 1 =
        ap (λ (fs : List (List ℕ)). length fs) split ∙ length-append files (text ∷ []) in
        let named : length (named_files_and bytes schedule) ≡ length (files_of found) + 1 =
        ap (λ r. length (files_and schedule r)) is ∙ length-append (files_of found) (schedule ∷ []) in
        omega (arith, count, all, named, length-map found.modules (λ (one : PlanModule). one.file))

  -- there is a schedule
  pub some_schedule : (found : Plan) → plan_in bytes ≡ Ok found
      → length others ≡ length (named_files_and bytes schedule) → 0 < length others
  some_schedule found is count =
      let named : length (named_files_and bytes schedule) ≡ length (files_of found) + 1 =
      ap (λ r. length (files_and schedule r)) is ∙ length-append (files_of found) (schedule ∷ []) in
      omega (arith, count, named)
