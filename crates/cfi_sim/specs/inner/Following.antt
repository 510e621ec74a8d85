-- Lines of a schedule, one after the other, as a simulation under way makes them.
use Rattle.std.specs.Prelude.{◌≡◌, ℕ, List, ◌++◌, ⊤}
use Rattle.cfi_sim.specs.Fault.{IsBadLine}
use Rattle.cfi_sim.specs.Schedule.{PassesNoLimit, LineMakes, LinesMake}
use Rattle.cfi_sim.specs.Stage.{Stage}
use Rattle.cfi_sim.specs.declared.fault.SimFault.{SimFault}
use Rattle.cfi_sim.specs.declared.fault.SimFault.TheVariants.{Open, BadEvent, Memory}
use Rattle.cfi_sim.specs.inner.Standing.{Whole, IsUnderWay}
use Rattle.cfi_text.specs.Lines.{numbered_lines}

-- some lines were made, and these are left
pub record FollowsTo (schedule : List ℕ) (left : List (ℕ × List ℕ)) (old new : Whole) : Type 0 where
  pub before : List (ℕ × List ℕ)
  pub lines : numbered_lines schedule ≡ before ++ left
  pub leads : LinesMake old.plan old.modules before old.stage new.stage
  pub plan : new.plan ≡ old.plan
  pub modules : new.modules ≡ old.modules
  pub under_way : IsUnderWay new
  pub within : PassesNoLimit new.stage

-- a line leads nowhere, or memory ran out
abbrev pub IsLineFault : Whole → (number : ℕ) → (text : List ℕ) → SimFault → Type 0
IsLineFault old number text (Open fault) = ⊥
IsLineFault old number text (BadEvent bad) =
    (bad ≡ number) × ((new : Stage) → ¬ LineMakes old.plan old.modules text old.stage new)
IsLineFault old number text Memory = ⊤

-- no line is led to for this fault: its first bad line; want of memory may always be
abbrev pub IsScheduleFault : Whole → (schedule : List ℕ) → SimFault → Type 0
IsScheduleFault old schedule (Open fault) = ⊥
IsScheduleFault old schedule (BadEvent number) = IsBadLine old.plan old.modules schedule old.stage number
IsScheduleFault old schedule Memory = ⊤
