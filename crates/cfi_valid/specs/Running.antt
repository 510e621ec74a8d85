-- The replay of a guest that still runs, one unit at a time: its log is what it has logged so far.
use Rattle.std.specs.Prelude.{◌≡◌, ◌≢◌, ◌↔◌, ℕ, ◌+◌, Bool, true, false, List, None, ⊤}
use Rattle.cfi_model.specs.Effect.{effect, is_in_code, asks}
use Rattle.cfi_model.specs.Service.{Reply, asked}
use Rattle.cfi_model.specs.Shows.{Stands}
use Rattle.cfi_model.specs.State.{State, register, displaced}
use Rattle.cfi_unit.specs.declared.unit.Unit.{Unit as CodeUnit}
use Rattle.cfi_unit.specs.declared.unit.Unit.TheVariants as units
use Rattle.cfi_valid.specs.Loaded.{Members, AllowedAt, Cells, fills_between}
use Rattle.cfi_valid.specs.Replay.{given_by, Replays}
use Rattle.cfi_word.specs.declared.services.TheConstants.{OPEN, TOO_MANY}

-- so many units have brought the guest to where it is
abbrev pub HasReplayed : Cells → (code : List ℕ) → Members → (count : ℕ) → (start now : State) → Type 0
HasReplayed cells code members count start now = Replays cells code members now.log count start now

-- the answer to an open that can be logged: it can, and a success brings the data that the guest lacks, and the cells
pub record IsLoggable (cells : Cells) (members : Members) (s : State) (reply : Reply) : Type 0 where
  pub some : reply.cause ≢ TOO_MANY
  pub brings : reply.cause ≡ 0 → reply.fills ≡ fills_between cells (given_by s.log) reply.policy members

-- each other open has found too many, and no other service looks at an answer
abbrev pub FitsService : Cells → (asked_for : Bool) → Members → State → Reply → Type 0
FitsService cells true members s reply = IsLoggable cells members s reply
FitsService cells false members s reply = asked s ≡ OPEN → reply.cause ≡ TOO_MANY

-- what a unit is given: a check whose target is one of the code a policy, which lets it through exactly where it
-- allows it
abbrev pub IsGiven : Cells → Members → CodeUnit → State → (pick : ℕ) → (allowed : Bool) → Reply → Type 0
IsGiven cells members (units.Check link rs1 imm slot) s pick allowed reply =
    let target = displaced (register s rs1) imm in
    is_in_code target ≡ true → (allowed ≡ true) ↔ AllowedAt members pick slot target
IsGiven cells members units.Service s pick allowed reply = FitsService cells (asks s) members s reply
IsGiven cells members unit s pick allowed reply = ⊤

-- a guest that has not stopped has run a unit more
pub record RunsUnit (cells : Cells) (code : List ℕ) (members : Members) (old new : State) : Type 0 where
  pub going : old.stop ≡ None
  pub unit : CodeUnit
  pub stands : Stands code old.pc unit
  pub pick : ℕ
  pub allowed : Bool
  pub reply : Reply
  pub given : IsGiven cells members unit old pick allowed reply
  pub is : new ≡ effect unit pick (λ slot target. allowed) reply old

-- whatever a guest has logged, one unit more is one fact more
abbrev pub ReplayGoesOn : Type 0
ReplayGoesOn =
    (cells : Cells) (code : List ℕ) (members : Members) (count : ℕ) (start old new : State) →
    HasReplayed cells code members count start old → RunsUnit cells code members old new →
    HasReplayed cells code members (count + 1) start new
