-- What simulating a plan with the modules of files comes to, and the answers to faults of simulations.
use Rattle.std.specs.Prelude.{◌≡◌, ℕ, List}
use Rattle.cfi_plan.specs.declared.plan.Plan.{Plan}
use Rattle.cfi_plan.specs.declared.plan.PlanModule.{PlanModule}
use Rattle.cfi_commands.specs.declared.refusal.Refusal.TheVariants.{Sim}
use Rattle.cfi_sim.specs.declared.fault.SimFault.{SimFault}
use Rattle.cfi_sim.specs.declared.fault.SimFault.TheVariants.{Open, BadEvent, Memory}
use Rattle.cfi_top.specs.declared.answer.Answer.{Answer}
use Rattle.cfi_top.specs.declared.answer.Answer.TheVariants as answers
use Rattle.cfi_top.specs.Refused.{IsOpenAmong, IsOpeningRefused}
use Rattle.cfi_top.specs.Simulating.{IsSimText, RefusesSimOf}

-- a fault is of one of so many modules, or of no module
abbrev pub IsSimAmong : (count : ℕ) → SimFault → Type 0
IsSimAmong count (Open fault) = IsOpenAmong count fault
IsSimAmong count (BadEvent line) = Unit {0}
IsSimAmong count Memory = Unit {0}

-- the answer to a plan or a schedule of which there is no simulation
abbrev pub IsSimRefused : (plan schedule : List ℕ) → (modules : List PlanModule) → SimFault → Answer → Type 0
IsSimRefused plan schedule modules (Open fault) answer = IsOpeningRefused plan modules fault answer
IsSimRefused plan schedule modules (BadEvent line) answer = answer ≡ answers.Refused schedule (Sim line)
IsSimRefused plan schedule modules Memory answer = ⊥

-- what simulating a plan with the modules of these files, by a schedule of these bytes, comes to
abbrev pub IsSimulated : (plan schedule : List ℕ) → Plan → (files : List (List ℕ)) → (bytes : List ℕ) → Answer → Type 0
IsSimulated plan schedule found files bytes (answers.Print text) = IsSimText found files bytes text
IsSimulated plan schedule found files bytes (answers.Refused name refusal) =
    RefusesSimOf plan schedule found files bytes name refusal
IsSimulated plan schedule found files bytes answer = ⊥
