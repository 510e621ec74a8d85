-- The replay of a guest: the policy machine over exactly the picks and opens of its log.
use Rattle.std.specs.Prelude.{◌≡◌, ◌↔◌, ℕ, zero, suc, Bool, true, false, List, [], ◌∷◌, length, replicate, flat_map, slice_get, Option, Some, None, ⊤}
use Rattle.std.specs.List.{fold}
use Rattle.cfi_unit.specs.declared.log.Log.{Log}
use Rattle.cfi_unit.specs.declared.log.Log.TheVariants.{Pick, Open, Cause}
use Rattle.cfi_unit.specs.declared.log.Stop.{Stop}
use Rattle.cfi_unit.specs.declared.log.Stop.TheVariants as stops
use Rattle.cfi_unit.specs.declared.unit.Unit.{Unit as CodeUnit}
use Rattle.cfi_unit.specs.declared.unit.Unit.TheVariants as units
use Rattle.cfi_model.specs.Effect.{effect, is_in_code, asks}
use Rattle.cfi_model.specs.Service.{Reply, reply_of, too_many}
use Rattle.cfi_model.specs.Shows.{Stands}
use Rattle.cfi_model.specs.State.{State, register, displaced}
use Rattle.cfi_valid.specs.Loaded.{Members, AllowedAt, Cells, fills_between}

-- ---- the log, one by one

-- what an entry stands for: so many picks, or one open
abbrev pub singles_of : Log → List Log
singles_of (Pick policy count) = replicate count (Pick policy 1)
singles_of (Open number address policy) = Open number address policy ∷ []
singles_of (Cause number cause) = Cause number cause ∷ []

-- a log with one entry for each pick
abbrev pub singles : List Log → List Log
singles log = flat_map singles_of log

-- what a guest that is to log all of this logs next
abbrev pub next_in : (log : List Log) → State → Option Log
next_in log s = slice_get (singles log) (length (singles s.log))

-- ---- the answers of opens

-- the policy up to which a guest has been given data: that of the last open that succeeded, and 0 at its start
abbrev pub given_after : (given : ℕ) → Log → ℕ
given_after given (Pick policy count) = given
given_after given (Open number address policy) = policy
given_after given (Cause number cause) = given

-- up to which policy a guest has the data of modules, after its log
abbrev pub given_by : List Log → ℕ
given_by log = fold given_after 0 log

-- the answer that an entry tells: a success brings the data that the guest lacks, and then the cells
abbrev pub IsReplyOf : Cells → Members → State → Option Log → Reply → Type 0
IsReplyOf cells members s (Some (Open number address policy)) reply =
    reply ≡ reply_of address 0 policy (fills_between cells (given_by s.log) policy members)
IsReplyOf cells members s (Some (Cause number cause)) reply = reply ≡ reply_of 0 cause 0 []
IsReplyOf cells members s (Some (Pick policy count)) reply = ⊥
IsReplyOf cells members s None reply = ⊥

-- ---- one unit

-- a check picks the next policy of the log, and is let through exactly where that policy allows it
pub record IsPicked (members : Members) (next : Option Log) (slot target pick : ℕ) (allowed : Bool)
    : Type 0 where
  pub is : next ≡ Some (Pick pick 1)
  pub exact : (allowed ≡ true) ↔ AllowedAt members pick slot target

-- a check whose target is none of the code picks nothing
abbrev pub TakesPick : (inside : Bool) → Members → Option Log → (slot target pick : ℕ) → (allowed : Bool)
    → Type 0
TakesPick true members next slot target pick allowed = IsPicked members next slot target pick allowed
TakesPick false members next slot target pick allowed = ⊤

-- an open that can be logged has the next answer of the log, each other has found too many
abbrev pub TakesAnswer : Cells → (asked : Bool) → Members → State → Option Log → Reply → Type 0
TakesAnswer cells true members s next reply = IsReplyOf cells members s next reply
TakesAnswer cells false members s next reply = reply ≡ too_many

-- what a unit takes from the log
abbrev pub TakesFrom : Cells → Members → Option Log → CodeUnit → State → (pick : ℕ) → (allowed : Bool)
    → Reply → Type 0
TakesFrom cells members next (units.Check link rs1 imm slot) s pick allowed reply =
    let target = displaced (register s rs1) imm in TakesPick (is_in_code target) members next slot target pick allowed
TakesFrom cells members next units.Service s pick allowed reply = TakesAnswer cells (asks s) members s next reply
TakesFrom cells members next unit s pick allowed reply = ⊤

-- a guest that has not stopped runs a unit of the code
pub record IsReplayed (cells : Cells) (code : List ℕ) (members : Members) (log : List Log) (old new : State)
    : Type 0 where
  pub going : old.stop ≡ None
  pub unit : CodeUnit
  pub stands : Stands code old.pc unit
  pub pick : ℕ
  pub allowed : Bool
  pub reply : Reply
  pub takes : TakesFrom cells members (next_in log old) unit old pick allowed reply
  pub is : new ≡ effect unit pick (λ slot target. allowed) reply old

-- and so many units
abbrev pub Replays : Cells → (code : List ℕ) → Members → (log : List Log) → (count : ℕ) → (old new : State)
    → Type 0
Replays cells code members log zero old new = new ≡ old
Replays cells code members log (suc count) old new =
    (mid : State) × Replays cells code members log count old mid × IsReplayed cells code members log mid new

-- a stop by the fuel, and none, is shown as none
abbrev pub shown_stop : Option Stop → Option Stop
shown_stop (Some stops.Fuel) = None
shown_stop stop = stop
