-- What the words of the program of traces come to: the trace of a plan by a schedule, or why there is none.
use Rattle.std.specs.Prelude.{◌≡◌, ℕ, ◌⊎◌, List, [], ◌∷◌, All, codes}
use Rattle.std.specs.Io.KnownBytes.{Appends}
use Rattle.cfi_request.specs.Words.{IsOperand}
use Rattle.cfi_aux.specs.declared.modules.Module.{Module}
use Rattle.cfi_plan.specs.declared.plan.Plan.{Plan as ModulePlan}
use Rattle.cfi_commands.specs.declared.refusal.Refusal.{Refusal}
use Rattle.cfi_commands.specs.Modules.{AreModuleFiles}
use Rattle.cfi_io.specs.Seen.{ShelfView, SinkView}
use Rattle.cfi_request.specs.declared.command.Command.TheVariants as commands
use Rattle.cfi_request.specs.declared.output.Output.{Output}
use Rattle.cfi_request.specs.declared.output.Output.TheVariants as outputs
use Rattle.cfi_request.specs.declared.output.TheConstants.{USAGE}
use Rattle.cfi_request.specs.Outside.{IsStarved, IsDelivered}
use Rattle.cfi_sim.specs.Trace.{IsTrace}
use Rattle.cfi_top.specs.declared.answer.Answer.{Answer}
use Rattle.cfi_top.specs.declared.answer.Answer.TheVariants as answers
use Rattle.cfi_top.specs.Answer.{output_of}
use Rattle.cfi_top.specs.Outcome.{IsAllRead, IsFirstUnread}
use Rattle.cfi_top.specs.Simulating.{IsSimulation, RefusesSimulation}

-- the words are the names of a plan and of a schedule
pub record AreNames (words : List (List ℕ)) (plan schedule : List ℕ) : Type 0 where
  pub spelled : words ≡ plan ∷ schedule ∷ []
  pub operands : All IsOperand words

-- the files are modules, and the text is the trace of the plan with these modules by this schedule
pub record IsTraceText (plan : ModulePlan) (files : List (List ℕ)) (schedule text : List ℕ) : Type 0 where
  pub modules : List Module
  pub are : AreModuleFiles files modules
  pub trace : IsTrace plan modules schedule text

-- the same of what these files are: a plan, its modules' files, and the schedule
abbrev pub IsTraceOfPlan : (bytes : List ℕ) → (others : List (List ℕ)) → (text : List ℕ) → Type 0
IsTraceOfPlan bytes others text = IsSimulation (λ plan files schedule. IsTraceText plan files schedule text) bytes others

-- what tracing a plan comes to whose bytes and other files are read; it is refused as its simulation is
abbrev pub IsTraced : (plan schedule : List ℕ) → (bytes : List ℕ) → (others : List (List ℕ)) → Answer → Type 0
IsTraced plan schedule bytes others (answers.Print text) = IsTraceOfPlan bytes others text
IsTraced plan schedule bytes others (answers.Refused name refusal) =
    RefusesSimulation plan schedule bytes others name refusal
IsTraced plan schedule bytes others answer = ⊥

-- the files are those that a simulation reads: all are read, or the answer says which is not and why
abbrev pub IsTraceOutcome : (plan schedule : List ℕ) → (shelf shelf' : ShelfView) → Answer → Type 0
IsTraceOutcome plan schedule shelf shelf' (answers.Unread unread) =
    IsFirstUnread (commands.Sim plan schedule) shelf shelf' unread
IsTraceOutcome plan schedule shelf shelf' answer =
    (bytes : List ℕ) × (others : List (List ℕ))
    × IsAllRead (commands.Sim plan schedule) shelf (bytes ∷ []) others × IsTraced plan schedule bytes others answer

-- what the words come to
abbrev pub IsTraceAnswer : (words : List (List ℕ)) → (shelf shelf' : ShelfView) → Answer → Type 0
IsTraceAnswer words shelf shelf' answers.Usage = (plan schedule : List ℕ) → ¬ AreNames words plan schedule
IsTraceAnswer words shelf shelf' answer =
    (plan : List ℕ) × (schedule : List ℕ) × AreNames words plan schedule
    × IsTraceOutcome plan schedule shelf shelf' answer

-- what is to be delivered
abbrev pub trace_usage : List ℕ
trace_usage = codes "usage: cfi_trace PLAN SCHEDULE\n"

-- what is to be delivered of an answer of the program of traces
abbrev pub trace_output : Answer → Output
trace_output answers.Usage = outputs.Print USAGE trace_usage
trace_output answer = output_of answer

-- no memory was left, or it was delivered
abbrev pub TraceEnds : (words : List (List ℕ)) → (shelf shelf' : ShelfView) → (sink sink' : SinkView) → (status : ℕ)
    → Type 0
TraceEnds words shelf shelf' sink sink' status =
    IsStarved shelf shelf' sink sink' status
    ⊎ ((answer : Answer) × IsTraceAnswer words shelf shelf' answer
    × IsDelivered (trace_output answer) shelf shelf' sink sink' status)
