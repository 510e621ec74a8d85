-- What tracing a plan comes to.
use Rattle.std.specs.Prelude.{◌≢◌}
use Rattle.std.proofs.Common.{◌≡◌, ◌≤◌, ◌⊎◌, ◌∙◌, ℕ, List, [], ◌∷◌, ◌++◌, length, Ok, inl, inr, refl, sym, ap, subst, arith}
use Rattle.cfi_aux.specs.declared.modules.Module.{Module}
use Rattle.cfi_plan.specs.declared.fault.PlanFault.{PlanFault}
use Rattle.cfi_plan.specs.declared.fault.PlanFault.TheVariants as plan_faults
use Rattle.cfi_plan.specs.declared.plan.Plan.{Plan}
use Rattle.cfi_plan.specs.Draft.{Fails}
use Rattle.cfi_plan.specs.Reading.{plan_in}
use Rattle.cfi_commands.specs.declared.refusal.Refusal.{Refusal}
use Rattle.cfi_commands.specs.declared.refusal.Refusal.TheVariants as refusals
use Rattle.cfi_commands.specs.Modules.{AreModuleFiles}
use Rattle.cfi_io.specs.Seen.{ShelfView, SinkView}
use Rattle.cfi_request.specs.declared.command.Command.TheVariants as commands
use Rattle.cfi_request.specs.declared.output.Output.{Output}
use Rattle.cfi_request.specs.Outside.{IsLater, IsStarved, IsDelivered, KeepsLast}
use Rattle.cfi_request.specs.Plans.{files_of, named_files_and}
use Rattle.cfi_request.specs.Reading.{AreRead}
use Rattle.cfi_request.proofs.OutsideLemmas.{delivered_since}
use Rattle.cfi_ledger.specs.declared.fault.OpenFault.{OpenFault}
use Rattle.cfi_sim.specs.declared.fault.SimFault.{SimFault}
use Rattle.cfi_sim.specs.declared.fault.SimFault.TheVariants.{Open, BadEvent, Memory}
use Rattle.cfi_sim.specs.Fault.{IsSimFault}
use Rattle.cfi_top.specs.declared.answer.Answer.{Answer}
use Rattle.cfi_top.specs.declared.answer.Answer.TheVariants as answers
use Rattle.cfi_top.specs.inner.Simulating.{IsSimRefused}
use Rattle.cfi_top.specs.inner.Tracing.{IsTracedBy, TraceGoesOn}
use Rattle.cfi_top.specs.Answer.{output_of}
use Rattle.cfi_top.specs.Opening.{RefusesOpening}
use Rattle.cfi_top.specs.Outcome.{IsAllRead}
use Rattle.cfi_top.specs.Refused.{plan_refused}
use Rattle.cfi_top.specs.Simulating.{RefusesSim, RefusesSimOf, RefusesSimulation}
use Rattle.cfi_top.specs.Tracing.{AreNames, IsTraced, IsTraceOutcome, IsTraceAnswer, TraceEnds, trace_output}
use Rattle.cfi_top.proofs.OpeningLemmas.{IsRefused, never_plan, opening_refused}
use Rattle.cfi_top.proofs.PlansLemmas.{plan_fault}
use Rattle.cfi_top.proofs.UnreadLemmas.{first_later, read_since, stops_since}

-- ---- a plan that is read

module _ (plan schedule : List ℕ) (found : Plan) (files : List (List ℕ)) (text : List ℕ) where
  abbrev P : List Module → (name : List ℕ) → Refusal → Type 0
  P = RefusesSim plan schedule found text

  -- a refusal of the modules of a plan is what tracing it comes to
  pub refused_trace : (answer : Answer) → IsRefused plan found files P answer
      → IsTracedBy plan schedule found files text answer
  refused_trace (answers.Refused name refusal) refused = refused
  refused_trace (answers.Ran it said) refused = absurd refused
  refused_trace (answers.Print said) refused = absurd refused
  refused_trace (answers.Save name file) refused = absurd refused
  refused_trace answers.Usage refused = absurd refused
  refused_trace (answers.Unread unread) refused = absurd refused

  module _ (modules : List Module) (are : AreModuleFiles files modules) where
    abbrev HasFault : OpenFault → Type 0
    HasFault fault = IsSimFault found modules text (Open fault)

    opened : (name : List ℕ) (refusal : Refusal) → RefusesOpening HasFault plan (files_of found) name refusal
        → P modules name refusal
    opened name (refusals.Sim line) refuses = absurd refuses
    opened name refusal refuses = refuses

    -- so is a fault of the trace, which is one of the simulation
    pub fault_trace : (fault : SimFault) (answer : Answer) → IsSimFault found modules text fault
        → IsSimRefused plan schedule found.modules fault answer → IsTracedBy plan schedule found files text answer
    fault_trace (Open fault) answer stands said =
        refused_trace answer
        (opening_refused plan found files P modules are HasFault opened fault answer stands said)
    fault_trace (BadEvent line) answer stands said =
        subst (IsTracedBy plan schedule found files text) (sym said) (inr (modules, are, (refl, stands)))
    fault_trace Memory answer stands said = absurd said

-- ---- the bytes of a plan

module _ (plan schedule bytes : List ℕ) (others : List (List ℕ)) where
  -- what is no plan
  pub no_plan_trace : (fault : PlanFault) (answer : Answer) → Fails fault (plan_in bytes)
      → fault ≢ plan_faults.Memory → answer ≡ plan_refused plan fault → IsTraced plan schedule bytes others answer
  no_plan_trace fault answer fails other said =
      subst (IsTraced plan schedule bytes others) (sym said)
      (record { named = refl; is = plan_fault fault (plan_in bytes) other fails; some = other })

  module _ (found : Plan) (is : plan_in bytes ≡ Ok found) (files : List (List ℕ)) (text : List ℕ)
      (split : others ≡ files ++ text ∷ []) where
    refuses : (name : List ℕ) (refusal : Refusal) → RefusesSimOf plan schedule found files text name refusal
        → RefusesSimulation plan schedule bytes others name refusal
    refuses name (refusals.Plan fault) refused =
        absurd (never_plan (RefusesSim plan schedule found text) (files_of found) files name (refusals.Plan fault)
        (λ modules it. it) (λ file it. it) refused)
    refuses name refusal refused =
        record { plan = found; is = is; files = files; schedule = text; split = split; says = refused }

    pub plan_trace : (answer : Answer) → IsTracedBy plan schedule found files text answer
        → IsTraced plan schedule bytes others answer
    plan_trace (answers.Print said) r =
        record { plan = found; is = is; files = files; schedule = text; split = split; says = r }
    plan_trace (answers.Refused name refusal) r = refuses name refusal r
    plan_trace (answers.Ran it said) r = absurd r
    plan_trace (answers.Save name file) r = absurd r
    plan_trace answers.Usage r = absurd r
    plan_trace (answers.Unread unread) r = absurd r

-- ---- files

-- the files that a plan names, and the schedule, are read
pub goes_trace : (plan schedule bytes : List ℕ) (others : List (List ℕ)) (shelf shelf' : ShelfView) (answer : Answer)
    → AreRead shelf (named_files_and bytes schedule) others → IsTraced plan schedule bytes others answer
    → TraceGoesOn plan schedule bytes shelf shelf' answer
goes_trace plan schedule bytes others shelf shelf' (answers.Print text) read traced = (others, read, traced)
goes_trace plan schedule bytes others shelf shelf' (answers.Refused name refusal) read traced = (others, read, traced)
goes_trace plan schedule bytes others shelf shelf' (answers.Ran it text) read traced = absurd traced
goes_trace plan schedule bytes others shelf shelf' (answers.Save name file) read traced = absurd traced
goes_trace plan schedule bytes others shelf shelf' answers.Usage read traced = absurd traced
goes_trace plan schedule bytes others shelf shelf' (answers.Unread unread) read traced = absurd traced

-- and before them the plan was
module _ (plan schedule bytes : List ℕ) (shelf mid shelf' : ShelfView) (later : IsLater shelf mid)
    (read : AreRead shelf (plan ∷ []) (bytes ∷ [])) where
  all_read : (others : List (List ℕ)) → AreRead mid (named_files_and bytes schedule) others
      → IsAllRead (commands.Sim plan schedule) shelf (bytes ∷ []) others
  all_read others more = record { inputs = read; others = read_since shelf mid _ others later more }

  pub outcome_trace : (answer : Answer) → TraceGoesOn plan schedule bytes mid shelf' answer
      → IsTraceOutcome plan schedule shelf shelf' answer
  outcome_trace answers.Usage goes = (bytes, goes.0, all_read goes.0 goes.1, goes.2)
  outcome_trace (answers.Ran it text) goes = (bytes, goes.0, all_read goes.0 goes.1, goes.2)
  outcome_trace (answers.Print text) goes = (bytes, goes.0, all_read goes.0 goes.1, goes.2)
  outcome_trace (answers.Save name file) goes = (bytes, goes.0, all_read goes.0 goes.1, goes.2)
  outcome_trace (answers.Refused name refusal) goes = (bytes, goes.0, all_read goes.0 goes.1, goes.2)
  outcome_trace (answers.Unread unread) goes =
      inr (bytes ∷ [], read, stops_since shelf mid shelf' _ unread later goes)

-- a list of one
pub one_file : (files : List (List ℕ)) → length files ≡ 1 → (bytes : List ℕ) × (files ≡ bytes ∷ [])
one_file [] count = absurd (omega (arith, count))
one_file (bytes ∷ []) count = (bytes, refl)
one_file (bytes ∷ other ∷ files) count = absurd (omega (arith, count))

-- ---- words

-- two names come to what their files do
pub names_trace : (words : List (List ℕ)) (plan schedule : List ℕ) (shelf shelf' : ShelfView) (answer : Answer)
    → AreNames words plan schedule → IsTraceOutcome plan schedule shelf shelf' answer
    → IsTraceAnswer words shelf shelf' answer
names_trace words plan schedule shelf shelf' (answers.Print text) names is = (plan, schedule, names, is)
names_trace words plan schedule shelf shelf' (answers.Refused name refusal) names is = (plan, schedule, names, is)
names_trace words plan schedule shelf shelf' (answers.Unread unread) names is = (plan, schedule, names, is)
names_trace words plan schedule shelf shelf' (answers.Ran it text) names is = absurd is.3
names_trace words plan schedule shelf shelf' (answers.Save name file) names is = absurd is.3
names_trace words plan schedule shelf shelf' answers.Usage names is = absurd is.3

-- ---- the end

-- what is delivered but for words that are no names
pub other_output : (answer : Answer) → answer ≢ answers.Usage → trace_output answer ≡ output_of answer
other_output answers.Usage other = absurd (other refl)
other_output (answers.Ran it text) other = refl
other_output (answers.Print text) other = refl
other_output (answers.Save name file) other = refl
other_output (answers.Refused name refusal) other = refl
other_output (answers.Unread unread) other = refl

-- what stood while the shelf was read stands later too
trace_later : (words : List (List ℕ)) (shelf mid shelf' : ShelfView) (answer : Answer) → shelf.faults ≤ mid.faults
    → mid.faults ≤ shelf'.faults → shelf.misses ≤ mid.misses → mid.misses ≤ shelf'.misses
    → KeepsLast (trace_output answer) mid shelf' → IsTraceAnswer words shelf mid answer
    → IsTraceAnswer words shelf shelf' answer
trace_later words shelf mid shelf' answers.Usage a b c d same is = is
trace_later words shelf mid shelf' (answers.Ran it text) a b c d same is = is
trace_later words shelf mid shelf' (answers.Print text) a b c d same is = is
trace_later words shelf mid shelf' (answers.Save name bytes) a b c d same is = is
trace_later words shelf mid shelf' (answers.Refused name refusal) a b c d same is = is
trace_later words shelf mid shelf' (answers.Unread unread) a b c d same is =
    (is.0, is.1, is.2, first_later (commands.Sim is.0 is.1) shelf mid shelf' unread a b c d same is.3)

-- an answer that was delivered ends the program
pub trace_ends : (words : List (List ℕ)) (shelf mid shelf' : ShelfView) (sink sink' : SinkView) (status : ℕ)
    (answer : Answer) (output : Output) → output ≡ trace_output answer → IsLater shelf mid
    → mid.faults ≤ shelf'.faults → mid.misses ≤ shelf'.misses → KeepsLast output mid shelf'
    → IsTraceAnswer words shelf mid answer
    → IsStarved mid shelf' sink sink' status ⊎ IsDelivered output mid shelf' sink sink' status
    → TraceEnds words shelf shelf' sink sink' status
trace_ends words shelf mid shelf' sink sink' status answer output same later faults misses last is (inl memory) =
    inl (memory.0, memory.1 ∙ later.files, memory.2)
trace_ends words shelf mid shelf' sink sink' status answer output same later faults misses last is (inr delivered) =
    let said = subst (λ (o : Output). IsDelivered o mid shelf' sink sink' status) same delivered in
    inr (
      answer,
      trace_later words shelf mid shelf' answer later.faults faults later.misses misses
          (subst (λ (o : Output). KeepsLast o mid shelf') same last) is,
      delivered_since (trace_output answer) shelf mid shelf' sink sink' status later said,
    )
