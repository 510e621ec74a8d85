-- What a check makes of an edge: the policy that it asks is that of the one epoch of which both words are that it has
-- loaded. In its window this epoch is in force (`cfi_model_law`, specs/Window.antt).
use Rattle.std.specs.Prelude.{◌≡◌, ℕ, ℤ, Bool, true, List}
use Rattle.cfi_unit.specs.declared.unit.Unit.TheVariants as units
use Rattle.cfi_model.specs.Effect.{is_in_code}
use Rattle.cfi_model.specs.History.{History, IsEpoch}
use Rattle.cfi_model.specs.Log.{picked}
use Rattle.cfi_model.specs.Shows.{End, IsTriedIn, Stands}
use Rattle.cfi_model.specs.State.{State, register, displaced}
use Rattle.cfi_valid.specs.Loaded.{Members, AllowedAt}

-- a check stands where the machine is, and leads from its slot to the target
pub record IsChecked (code : List ℕ) (s : State) (slot target : ℕ) : Type 0 where
  pub link : Bool
  pub rs1 : ℕ
  pub imm : ℤ
  pub stands : Stands code s.pc (units.Check link rs1 imm slot)
  pub is : target ≡ displaced (register s rs1) imm

-- the policy that was asked is that of an epoch which is or was in force
pub record IsAsked (h : History) (end : End) (slot target : ℕ) : Type 0 where
  pub epoch : ℕ
  pub known : IsEpoch h epoch
  pub tried : IsTriedIn h epoch slot target end

-- the check has gone to its target, a word of the code, which the policy allows to its slot; the policy is logged
pub record IsAllowedEdge (h : History) (members : Members) (end : End) (slot target : ℕ) (old new : State)
    : Type 0 where
  pub asked : IsAsked h end slot target
  pub inside : is_in_code target ≡ true
  pub allowed : AllowedAt members (h.policy asked.epoch) slot target
  pub goes : new.pc ≡ target
  pub logged : new.log ≡ picked (h.policy asked.epoch) old.log

-- the policy forbids the edge; a target that is no word of the code is in none
pub record IsForbiddenEdge (h : History) (members : Members) (end : End) (slot target : ℕ) : Type 0 where
  pub asked : IsAsked h end slot target
  pub forbidden : ¬ AllowedAt members (h.policy asked.epoch) slot target
