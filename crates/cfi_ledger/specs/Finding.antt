-- What was found of modules that are not loaded: under which policy, and whether they joined then.
use Rattle.std.specs.Prelude.{◌≡◌, ℕ, ◌≤◌, List, length, slice_get, Option, Some, None}
use Rattle.cfi_aux.specs.declared.modules.Module.{Module}
use Rattle.cfi_aux.specs.declared.placed.Placed.{Placed}
use Rattle.cfi_place.specs.Value.{name_at}
use Rattle.cfi_place.specs.declared.fault.PlaceFault.TheVariants as places
use Rattle.cfi_modules.specs.Series.{JoinsTo, IsRefusedBy}
use Rattle.cfi_modules.specs.declared.fault.JoinFault.{JoinFault}
use Rattle.cfi_modules.specs.declared.fault.JoinFault.TheVariants as joins
use Rattle.cfi_ledger.specs.declared.finding.Finding.{Finding}
use Rattle.cfi_ledger.specs.declared.finding.Outcome.{Outcome}
use Rattle.cfi_ledger.specs.declared.finding.Outcome.TheVariants as outcomes
use Rattle.cfi_ledger.specs.Roster.{Roster, series_of}

-- the fault that an outcome stands for, none where the module joins
abbrev pub fault_by : Module → Outcome → Option JoinFault
fault_by m outcomes.Joins = None
fault_by m (outcomes.Undefined symbol) = Some (joins.Place (places.Undefined (name_at m.object.symbols (Some symbol))))
fault_by m outcomes.CodeFull = Some (joins.Place places.CodeFull)
fault_by m outcomes.DataFull = Some (joins.Place places.DataFull)
fault_by m (outcomes.Reloc number fault) = Some (joins.Place (places.Reloc number fault))
fault_by m (outcomes.Verify fault) = Some (joins.Verify fault)

-- the module does not join the others for this fault, or joins them where there is none
abbrev pub JoinsBut : Roster → Module → Option JoinFault → Type 0
JoinsBut r m None = (placed : Placed) × JoinsTo (series_of r) m placed
JoinsBut r m (Some fault) = IsRefusedBy (series_of r) m fault

-- a finding of the module of this number: it was made under no later policy, and if it was made under this one, it says
-- whether the module joins
pub record IsFinding (modules : List Module) (policy : ℕ) (r : Roster) (number : ℕ) (f : Finding) : Type 0 where
  pub unplaced : Module
  pub is : slice_get modules number ≡ Some unplaced
  pub most : f.policy ≤ policy
  pub says : f.policy ≡ policy → JoinsBut r unplaced (fault_by unplaced f.outcome)

-- of each module of the plan there is one, or none
pub record AreFindings (modules : List Module) (policy : ℕ) (r : Roster) (found : List (Option Finding)) : Type 0 where
  pub many : length found ≡ length modules
  pub each : (number : ℕ) (f : Finding) → slice_get found number ≡ Some (Some f) → IsFinding modules policy r number f

-- the module of the plan of this number joins
pub record DoesJoin (modules : List Module) (r : Roster) (number : ℕ) : Type 0 where
  pub unplaced : Module
  pub is : slice_get modules number ≡ Some unplaced
  pub placed : Placed
  pub joins : JoinsTo (series_of r) unplaced placed
