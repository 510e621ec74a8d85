-- How many instructions a guest ran: those of its units, nine for each try of a check that was repeated, and those of
-- a unit that the fuel kept from its end.
use Rattle.std.specs.Prelude.{◌≡◌, ℕ, ◌+◌, ◌*◌, ◌≤◌, Bool, true, false, List, Option, Some, None}
use Rattle.cfi_unit.specs.declared.log.Stop.{Stop}
use Rattle.cfi_unit.specs.declared.log.Stop.TheVariants as stops
use Rattle.cfi_unit.specs.declared.unit.Unit.{Unit as CodeUnit}
use Rattle.cfi_unit.specs.declared.unit.Unit.TheVariants as units
use Rattle.cfi_model.specs.Log.{pick_entries}
use Rattle.cfi_model.specs.Shows.{Stands, few_of}
use Rattle.cfi_model.specs.State.{State}
use Rattle.cfi_report.specs.declared.report.GuestPart.{GuestPart}
use Rattle.cfi_word.specs.declared.sizes.TheConstants.{RETRY_STEPS}

-- how many instructions of a unit can have been run that has not ended; a service that waits has run its own
abbrev pub begun_most : Option Stop → CodeUnit → ℕ
begun_most None units.Service = 1
begun_most stop unit = few_of unit

-- the guest stands at a unit, of which it has run so many
pub record IsBegun (code : List ℕ) (stop : Option Stop) (last : State) (begun : ℕ) : Type 0 where
  pub unit : CodeUnit
  pub stands : Stands code last.pc unit
  pub few : begun ≤ begun_most stop unit

-- a guest that has stopped by itself has begun no unit
abbrev pub HasBegun : (code : List ℕ) → Option Stop → State → (begun : ℕ) → Type 0
HasBegun code (Some (stops.Exit number)) last begun = begun ≡ 0
HasBegun code (Some (stops.Halt address)) last begun = begun ≡ 0
HasBegun code (Some (stops.Align address)) last begun = begun ≡ 0
HasBegun code (Some stops.Fuel) last begun = IsBegun code (Some stops.Fuel) last begun
HasBegun code None last begun = IsBegun code None last begun

-- it is a check
abbrev pub is_check : CodeUnit → Bool
is_check (units.Check link rs1 imm slot) = true
is_check unit = false

-- a guest that has not stopped by itself stands at a check
pub record MeetsCheck (code : List ℕ) (last : State) : Type 0 where
  pub going : last.stop ≡ None
  pub unit : CodeUnit
  pub stands : Stands code last.pc unit
  pub check : is_check unit ≡ true

-- the steps that a part of a report says, where its units end in the state `last`; one that picked nothing and meets
-- no check has repeated no try
pub record HasSteps (fuel : ℕ) (code : List ℕ) (last : State) (part : GuestPart) : Type 0 where
  pub repeats : ℕ
  pub begun : ℕ
  pub sum : part.steps ≡ last.steps + RETRY_STEPS * repeats + begun
  pub begins : HasBegun code part.stop last begun
  pub unpicked : pick_entries part.log ≡ 0 → ¬ MeetsCheck code last → repeats ≡ 0
  pub most : part.steps ≤ fuel
  pub spent : part.stop ≡ Some stops.Fuel → part.steps ≡ fuel
