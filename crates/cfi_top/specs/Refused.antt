-- The answers to files that are refused.
use Rattle.std.specs.Prelude.{◌≡◌, ℕ, ◌<◌, List, slice_get, IsSomeAnd, ⊤}
use Rattle.cfi_plan.specs.declared.fault.PlanFault.{PlanFault}
use Rattle.cfi_plan.specs.declared.plan.PlanModule.{PlanModule}
use Rattle.cfi_commands.specs.declared.fault.CommandFault.{CommandFault}
use Rattle.cfi_commands.specs.declared.fault.CommandFault.TheVariants.{File, Together, Memory}
use Rattle.cfi_commands.specs.declared.refusal.Refusal.TheVariants as refusals
use Rattle.cfi_ledger.specs.declared.fault.OpenFault.{OpenFault}
use Rattle.cfi_ledger.specs.declared.fault.OpenFault.TheVariants as opens
use Rattle.cfi_top.specs.declared.answer.Answer.{Answer}
use Rattle.cfi_top.specs.declared.answer.Answer.TheVariants.{Refused}

-- the answer to a fault of the file of this name
abbrev pub IsRefusalOf : (name : List ℕ) → CommandFault → Answer → Type 0
IsRefusalOf name (File number refusal) answer = answer ≡ Refused name refusal
IsRefusalOf name (Together fault) answer = answer ≡ Refused name (refusals.Link fault)
IsRefusalOf name Memory answer = ⊥

-- the answer to a plan that is none
abbrev pub plan_refused : (plan : List ℕ) → PlanFault → Answer
plan_refused plan fault = Refused plan (refusals.Plan fault)

-- a fault is of one of so many files
abbrev pub IsAmong : (count : ℕ) → CommandFault → Type 0
IsAmong count (File number refusal) = number < count
IsAmong count (Together fault) = ⊥
IsAmong count Memory = ⊤

-- the answer to the first fault of modules' files
abbrev pub IsModuleRefused : (modules : List PlanModule) → CommandFault → Answer → Type 0
IsModuleRefused modules (File number refusal) answer =
    IsSomeAnd (slice_get modules number) (λ one. answer ≡ Refused one.file refusal)
IsModuleRefused modules (Together fault) answer = ⊥
IsModuleRefused modules Memory answer = ⊥

-- a fault of opening is of one of so many modules, or of a guest
abbrev pub IsOpenAmong : (count : ℕ) → OpenFault → Type 0
IsOpenAmong count (opens.Place number fault) = number < count
IsOpenAmong count (opens.Verify number fault) = number < count
IsOpenAmong count (opens.NoEntry guest) = ⊤

-- the answer to a plan that cannot be opened: a module's file is at fault, or the plan is
abbrev pub IsOpeningRefused : (plan : List ℕ) → (modules : List PlanModule) → OpenFault → Answer → Type 0
IsOpeningRefused plan modules (opens.Place number fault) answer =
    IsSomeAnd (slice_get modules number) (λ one. answer ≡ Refused one.file (refusals.Place fault))
IsOpeningRefused plan modules (opens.Verify number fault) answer =
    IsSomeAnd (slice_get modules number) (λ one. answer ≡ Refused one.file (refusals.Verify fault))
IsOpeningRefused plan modules (opens.NoEntry guest) answer = answer ≡ Refused plan (refusals.Entry guest)

-- the answer to a bare file whose plan cannot be opened
abbrev pub bare_refused : (input : List ℕ) → OpenFault → Answer
bare_refused input (opens.Place number fault) = Refused input (refusals.Place fault)
bare_refused input (opens.Verify number fault) = Refused input (refusals.Verify fault)
bare_refused input (opens.NoEntry guest) = Refused input (refusals.Entry guest)
