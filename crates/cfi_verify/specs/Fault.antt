-- The faults of a placed module against those that are loaded: the first one, and when there is none. Places in code
-- are bytes from the module's start, and functions and branches go by their numbers, from 0.
use Rattle.std.specs.Prelude.{◌≡◌, ◌≢◌, ◌⊎◌, ℕ, ◌*◌, ◌<◌, ◌≤◌, List, [], length}
use Rattle.cfi_aux.specs.declared.placed.Placed.{Placed}
use Rattle.cfi_verify.specs.declared.fault.VerifyFault.{VerifyFault}
use Rattle.cfi_verify.specs.declared.fault.VerifyFault.TheVariants as faults
use Rattle.cfi_unit.specs.declared.spot.Spot.{Spot}
use Rattle.cfi_verify.specs.declared.checks.CheckSpot.{CheckSpot}
use Rattle.elf_read.specs.Lists.{Each, Breaks, own_number}
use Rattle.cfi_verify.specs.Spots.{checks_of, IsIllegal, IsNotUnit}
use Rattle.cfi_unit.specs.Spots.{AreSpots}
use Rattle.cfi_verify.specs.Functions.{FitsBehind, IsIdleBehind, EndsWell}
use Rattle.cfi_verify.specs.Target.{LeadsWell}
use Rattle.cfi_verify.specs.Branches.{NamesSlot, KindFits, EntriesFit}

-- where a unit and a check stand in bytes
abbrev pub unit_place : (number : ℕ) → Spot → ℕ
unit_place number spot = 4 * spot.at

-- where a check stands, in bytes
abbrev pub check_place : (number : ℕ) → CheckSpot → ℕ
check_place number check = 4 * check.at

-- the fault stands against the units of a module
abbrev pub FaultStandsIn : (m : Placed) → (loaded : List Placed) → List Spot → VerifyFault → Type 0
FaultStandsIn m loaded spots (faults.Slot o) = Breaks (checks_of spots) check_place (NamesSlot m) o
FaultStandsIn m loaded spots (faults.Functions k) = Breaks m.functions own_number (FitsBehind m spots) k
    ⊎ ((k ≡ length m.functions) × ¬ IsIdleBehind m spots)
FaultStandsIn m loaded spots (faults.FallsThrough k) = Breaks m.functions own_number (EndsWell spots) k
FaultStandsIn m loaded spots (faults.Target o) = Breaks spots unit_place (LeadsWell m loaded spots) o
FaultStandsIn m loaded spots (faults.Kinds o) = Breaks (checks_of spots) check_place (KindFits m) o
    ⊎ ((o ≡ 4 * length m.words) × (length (checks_of spots) < length m.branches))
FaultStandsIn m loaded spots (faults.Switch k) = Breaks (checks_of spots) own_number (EntriesFit m spots) k
FaultStandsIn m loaded spots fault = ⊥

-- the fault stands against a module
abbrev pub FaultStands : (m : Placed) → (loaded : List Placed) → VerifyFault → Type 0
FaultStands m loaded faults.Empty = m.words ≡ []
FaultStands m loaded (faults.Illegal o) = IsIllegal m.words o
FaultStands m loaded (faults.NotUnit o) = IsNotUnit m.words o
FaultStands m loaded fault = (spots : List Spot) × AreSpots m.words spots × FaultStandsIn m loaded spots fault

-- the number of a fault's kind, and its place
abbrev pub fault_number : VerifyFault → ℕ
fault_number faults.Empty = 1
fault_number (faults.Illegal o) = 2
fault_number (faults.NotUnit o) = 3
fault_number (faults.Slot o) = 4
fault_number (faults.Functions k) = 5
fault_number (faults.FallsThrough k) = 6
fault_number (faults.Target o) = 7
fault_number (faults.Kinds o) = 8
fault_number (faults.Switch k) = 9
fault_number faults.Memory = 10

-- the place that a fault names
abbrev pub fault_place : VerifyFault → ℕ
fault_place faults.Empty = 0
fault_place (faults.Illegal o) = o
fault_place (faults.NotUnit o) = o
fault_place (faults.Slot o) = o
fault_place (faults.Functions k) = k
fault_place (faults.FallsThrough k) = k
fault_place (faults.Target o) = o
fault_place (faults.Kinds o) = o
fault_place (faults.Switch k) = k
fault_place faults.Memory = 0

-- a fault comes before another: by its number, and then by its place
abbrev pub IsEarlier : VerifyFault → VerifyFault → Type 0
IsEarlier a b = (fault_number a < fault_number b) ⊎ ((fault_number a ≡ fault_number b) × (fault_place a < fault_place b))

-- the first fault of a module
pub record IsFirstFault (m : Placed) (loaded : List Placed) (fault : VerifyFault) : Type 0 where
  pub stands : FaultStands m loaded fault
  pub first : (other : VerifyFault) → FaultStands m loaded other → ¬ IsEarlier other fault

-- an answer that is no want of memory is the first fault
abbrev pub IsFault : (m : Placed) → (loaded : List Placed) → VerifyFault → Type 0
IsFault m loaded fault = fault ≢ faults.Memory → IsFirstFault m loaded fault

-- no fault stands against a module
abbrev pub Verifies : (m : Placed) → (loaded : List Placed) → Type 0
Verifies m loaded = (fault : VerifyFault) → ¬ FaultStands m loaded fault

-- what holds of a module whose units stand at these places, where no fault up to `FallsThrough` stands against it
pub record IsLaidOut (m : Placed) (spots : List Spot) : Type 0 where
  pub some : m.words ≢ []
  pub units : AreSpots m.words spots
  pub slots : Each (checks_of spots) (NamesSlot m)
  pub functions : Each m.functions (FitsBehind m spots)
  pub idle : IsIdleBehind m spots
  pub ends : Each m.functions (EndsWell spots)

-- and where none at all does
pub record IsVerifiedAs (m : Placed) (loaded : List Placed) (spots : List Spot) : Type 0 where
  pub laid : IsLaidOut m spots
  pub targets : Each spots (LeadsWell m loaded spots)
  pub kinds : Each (checks_of spots) (KindFits m)
  pub records : length m.branches ≤ length (checks_of spots)
  pub switches : Each (checks_of spots) (EntriesFit m spots)

-- no fault stands against the module beside those that are loaded
abbrev pub IsVerified : (m : Placed) → (loaded : List Placed) → Type 0
IsVerified m loaded = (spots : List Spot) × IsVerifiedAs m loaded spots
