-- The unit in which a guest pauses.
use Rattle.std.specs.Prelude.{◌≡◌, ℕ, ◌+◌, false, List, [], ◌∷◌, ◌++◌, None}
use Rattle.cfi_unit.specs.declared.unit.Unit.{Unit as CodeUnit}
use Rattle.cfi_unit.specs.declared.unit.Unit.TheVariants as units
use Rattle.cfi_word.specs.declared.map.TheConstants.{DATA_START}
use Rattle.cfi_model.specs.Data.{load_width, store_width, is_aligned}
use Rattle.cfi_model.specs.Effect.{masked_at}
use Rattle.cfi_model.specs.History.{History}
use Rattle.cfi_model.specs.Running.{IsForbidden}
use Rattle.cfi_model.specs.Service.{asked}
use Rattle.cfi_model.specs.Shows.{End, IsStep, Runs, Stands}
use Rattle.cfi_model.specs.State.{State}
use Rattle.cfi_runner.specs.declared.pause.Pause.{Pause}
use Rattle.cfi_runner.specs.declared.pause.Pause.TheVariants as pauses

-- the last unit that the policy machine has run
pub record IsLast (h : History) (code : List ℕ) (ends : List End) (old new : State) : Type 0 where
  pub front : List End
  pub end : End
  pub is : ends ≡ front ++ end ∷ []
  pub before : State
  pub runs : Runs h code front old before
  pub step : IsStep h code end before new

-- the guest stands at a service unit, which asks for the service of this number
pub record AsksIn (code : List ℕ) (s : State) (number : ℕ) : Type 0 where
  pub stands : Stands code s.pc units.Service
  pub is : number ≡ asked s

-- a masked access at an address that is no multiple of its width
abbrev pub MissesWidth : CodeUnit → State → (address : ℕ) → Type 0
MissesWidth (units.Load kind rd rs1 imm) s address =
    (address ≡ DATA_START + masked_at rs1 imm s) × (is_aligned (load_width kind) (masked_at rs1 imm s) ≡ false)
MissesWidth (units.Store kind rs1 rs2 imm) s address =
    (address ≡ DATA_START + masked_at rs1 imm s) × (is_aligned (store_width kind) (masked_at rs1 imm s) ≡ false)
MissesWidth unit s address = ⊥

-- the unit in which the guest stops for an address that its access is not aligned to
pub record IsMisaligned (code : List ℕ) (s : State) (address : ℕ) : Type 0 where
  pub unit : CodeUnit
  pub stands : Stands code s.pc unit
  pub misses : MissesWidth unit s address

-- The state that a paused guest shows. A service is asked for by the unit at which it stands; a check has stopped it
-- before a target outside the code, or with two words of one epoch whose classes differ; a misaligned access has; the
-- fuel is not shown.
abbrev pub IsPausedIn : History → (code : List ℕ) → List End → (old s : State) → Pause → Type 0
IsPausedIn h code ends old s (pauses.Service number) = (s.stop ≡ None) × AsksIn code s number
IsPausedIn h code ends old s (pauses.Halt target) =
    (last : IsLast h code ends old s) × IsForbidden h code last.end last.before target
IsPausedIn h code ends old s (pauses.Align address) =
    (last : IsLast h code ends old s) × IsMisaligned code last.before address
IsPausedIn h code ends old s pauses.Fuel = s.stop ≡ None
