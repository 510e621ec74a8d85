-- What a check finds, which policy it picks, and where guests stand, over every run of events.
use Rattle.std.specs.Prelude.{◌≡◌, ◌≢◌, ◌⊎◌, ℕ, ℤ, ◌+◌, ◌-◌, ◌*◌, ◌%◌, ◌/◌, ◌≤◌, ◌<◌, Bool, List, slice_get, Some, None}
use Rattle.rv_insn.specs.InsnOf.{insn_of}
use Rattle.cfi_unit.specs.declared.log.Stop.TheVariants.{Halt}
use Rattle.cfi_unit.specs.declared.unit.Unit.TheVariants as units
use Rattle.cfi_word.specs.Rank.{stores_of}
use Rattle.cfi_word.specs.Table.{Code, Tary, Bary}
use Rattle.cfi_word.specs.Word.{epoch_in, policy_in}
use Rattle.cfi_word.specs.declared.sizes.TheConstants.{CHECK_WORDS}
use Rattle.cfi_model.specs.Begin.{HasStepBy}
use Rattle.cfi_model.specs.History.{History, IsEpoch, slot_class, target_class}
use Rattle.cfi_model.specs.InForce.{history_of, code_in_force, tary_index}
use Rattle.cfi_model.specs.Raw.{Raw}
use Rattle.cfi_model.specs.Running.{IsForbidden, IsGuest, IsHeld, IsRunning, IsSpent}
use Rattle.cfi_model.specs.Shows.{AreKept, End, IsReady, IsTriedIn, Stands, try_place}
use Rattle.cfi_model.specs.State.{State, register, displaced}
use Rattle.cfi_model.specs.TableMoments.{IsInForce}
use Rattle.cfi_model.specs.Tables.{IsTables}
use Rattle.cfi_model.specs.Tries.{IsInWindow}
use Rattle.cfi_model.specs.Words.{Tables, next_epoch, word_at}
use Rattle.cfi_model.specs.World.{World}
use Rattle.cfi_world.specs.Counts.{HasRepeated}
use Rattle.cfi_world.specs.Laws.{MayTurns}
use Rattle.cfi_world.specs.Moments.{IsTryOf, world_at}
use Rattle.cfi_world.specs.Premises.{MayTurn}
use Rattle.cfi_world.specs.Turns.{turn_of}
use Rattle.cfi_world.specs.Worlds.{IsWorld}
use Rattle.cfi_world.specs.declared.event.Event.{Event}
use Rattle.cfi_world.specs.declared.event.Event.TheVariants.{Guest}

-- the word of the slot, and that of the target
abbrev pub bary_in : World → (slot : ℕ) → ℕ
bary_in w slot = word_at w.tables (Bary slot)

-- the word of a target
abbrev pub tary_in : World → (target : ℕ) → ℕ
tary_in w target = word_at w.tables (Tary (tary_index w.tables.code_words target))

-- The policy of a pick is in force through the whole window of a try: where a guest finds a target's word with the
-- version of the slot's word of its try, both are of one epoch, and at each moment from the load of the one to that of
-- the other this epoch is in force, and the policy of the target's word.
pub record IsHeldThroughout (w : World) (run : List Event) (slot target from to : ℕ) : Type 0 where
  pub one : epoch_in (bary_in (world_at w run from) slot) ≡ epoch_in (tary_in (world_at w run to) target)
  pub force : (moment : ℕ) → IsInWindow from to moment →
      IsInForce (world_at w run moment).tables (epoch_in (tary_in (world_at w run to) target))
      (policy_in (tary_in (world_at w run to) target))

-- a try that finds two words of one version finds them of one epoch, which was in force throughout
abbrev pub PicksHoldThroughout : Type 0
PicksHoldThroughout =
    (w : World) → IsWorld w → (run : List Event) → MayTurns w run →
    (guest slot target from to : ℕ) → IsTryOf w run guest slot target from to →
    epoch_in (bary_in (world_at w run from) slot) % w.tables.versions
    ≡ epoch_in (tary_in (world_at w run to) target) % w.tables.versions →
    IsHeldThroughout w run slot target from to

-- the word of a check that leads back to its next try
abbrev pub branch_place : ℕ
branch_place = CHECK_WORDS - 3

-- the update to an epoch has made its first store of a Tary word
abbrev pub HasStoredTary : Tables → (epoch : ℕ) → Type 0
HasStoredTary t epoch =
    (epoch + 1 < next_epoch t) ⊎ ((epoch + 1 ≡ next_epoch t) × (t.code_words < t.stored))

-- it has not begun, or has not made its last store of a Bary word yet
abbrev pub HasBaryToStore : Tables → (epoch : ℕ) → Type 0
HasBaryToStore t epoch =
    (next_epoch t ≤ epoch) ⊎ ((epoch + 1 ≡ next_epoch t) × (t.stored < stores_of t.code_words))

-- A try whose words have different versions meets an update: its target's word is of a later epoch, and the update to
-- that epoch had stored a Tary word when it was loaded, and had a Bary word to store when the slot's word was.
pub record MeetsUpdate (old new : World) (slot target : ℕ) : Type 0 where
  pub later : epoch_in (bary_in old slot) < epoch_in (tary_in new target)
  pub stored : HasStoredTary new.tables (epoch_in (tary_in new target))
  pub to_store : HasBaryToStore old.tables (epoch_in (tary_in new target))

-- a try that finds two versions has met an update
abbrev pub RepeatsMeetUpdates : Type 0
RepeatsMeetUpdates =
    (w : World) → IsWorld w → (run : List Event) → MayTurns w run →
    (guest slot target from to : ℕ) → IsTryOf w run guest slot target from to →
    epoch_in (bary_in (world_at w run from) slot) % w.tables.versions
    ≢ epoch_in (tary_in (world_at w run to) target) % w.tables.versions →
    MeetsUpdate (world_at w run from) (world_at w run to) slot target

-- a guest goes back from a check's branch to the word with which each of its tries begins, and has not stopped
pub record GoesBack (r now : Raw) (s : State) : Type 0 where
  pub going : now.base.stop ≡ None
  pub from : r.base.pc ≡ s.pc + 4 * branch_place
  pub to : now.base.pc ≡ s.pc + 4 * try_place

-- it has one repeated try more, and keeps the two words for which it repeats it: that of the slot and that of the
-- target, with different versions
pub record IsRepeatedFor (h : History) (code : List ℕ) (retries : ℕ) (s : State) (slot target : ℕ) (r now : Raw)
    : Type 0 where
  pub tries : ℕ
  pub before : HasRepeated h code retries s r tries
  pub after : HasRepeated h code retries s now (tries + 1)
  pub kept : AreKept h slot target now.bary now.tary
  pub bary : now.bary ≡ r.bary
  pub tary : now.tary ≡ r.tary

-- a check goes back to its start for the two words that it has found alone
abbrev pub RepeatsAreForOwnWords : Type 0
RepeatsAreForOwnWords =
    (w : World) → IsWorld w → (guest : ℕ) (r now : Raw) → slice_get w.guests guest ≡ Some r →
    slice_get (turn_of w (Guest guest)).world.guests guest ≡ Some now →
    (retries : ℕ) (s : State) → IsGuest (history_of w.tables) (code_in_force w.tables) retries s r →
    (link : Bool) (rs1 : ℕ) (imm : ℤ) (slot : ℕ) →
    Stands (code_in_force w.tables) s.pc (units.Check link rs1 imm slot) → GoesBack r now s →
    IsRepeatedFor (history_of w.tables) (code_in_force w.tables) retries s slot (displaced (register s rs1) imm) r now

-- a check has stopped the guest, under the words that it kept
pub record IsHalted (w : World) (r : Raw) (s : State) (target : ℕ) : Type 0 where
  pub end : End
  pub bary : end.bary ≡ r.bary
  pub tary : end.tary ≡ r.tary
  pub forbidden : IsForbidden (history_of w.tables) (code_in_force w.tables) end s target

-- an event stops a guest with Halt only where the target is none of the code, or where the two words that the guest
-- kept are of one epoch whose policy forbids the edge
abbrev pub HaltsAreForbidden : Type 0
HaltsAreForbidden =
    (w : World) → IsWorld w → (event : Event) → MayTurn w event →
    (guest : ℕ) (r now : Raw) → slice_get w.guests guest ≡ Some r →
    slice_get (turn_of w event).world.guests guest ≡ Some now → r.base.stop ≡ None →
    (retries : ℕ) (s : State) → IsGuest (history_of w.tables) (code_in_force w.tables) retries s r →
    (target : ℕ) → now.base.stop ≡ Some (Halt target) → IsHalted w r s target

-- A guest stands between two units, or inside the one that it has begun at its start, and what it has loaded since it
-- stood at that start has led it there; or the fuel has stopped it there. Another one that has stopped stands in the
-- unit that stopped it. It has a step for what it fetches.
pub record IsPlaced (w : World) (r : Raw) : Type 0 where
  pub retries : ℕ
  pub s : State
  pub last : Raw
  pub is : (r ≡ last) ⊎ IsSpent last r
  pub ready : IsReady (history_of w.tables) s
  pub led : IsRunning (history_of w.tables) (code_in_force w.tables) retries s last
  pub tries : ℕ
  pub stands : HasRepeated (history_of w.tables) (code_in_force w.tables) retries s last tries
  pub held : s.stop ≢ None → IsHeld (history_of w.tables) (code_in_force w.tables) s last
  pub steps : r.base.stop ≡ None → r.waits ≡ None →
      HasStepBy (insn_of (word_at w.tables (Code (r.base.pc / 4)))) r

-- each guest stands in a unit, or between two
abbrev pub GuestsStandInUnits : Type 0
GuestsStandInUnits = (w : World) → IsWorld w → (guest : ℕ) (r : Raw) → slice_get w.guests guest ≡ Some r → IsPlaced w r

-- on a check's last word, its jump, only a guest is placed whose try has found both words, of one epoch in which the
-- slot and the target have one class; so none that keeps no words
pub record HasPassed (h : History) (slot target : ℕ) (r : Raw) : Type 0 where
  pub epoch : ℕ
  pub known : IsEpoch h epoch
  pub tried : IsTriedIn h epoch slot target (record { bary = r.bary; tary = r.tary; reply = None })
  pub same : slot_class h epoch slot ≡ target_class h epoch target

-- the last jump of a check leads where the check has found that it may
abbrev pub LastWordsAreLedTo : Type 0
LastWordsAreLedTo =
    (w : World) → IsTables w.tables → (r : Raw) (placed : IsPlaced w r) →
    (link : Bool) (rs1 : ℕ) (imm : ℤ) (slot : ℕ) →
    Stands (code_in_force w.tables) placed.s.pc (units.Check link rs1 imm slot) → placed.s.stop ≡ None →
    r.base.pc ≡ placed.s.pc + 4 * (CHECK_WORDS - 1) →
    HasPassed (history_of w.tables) slot (displaced (register placed.s rs1) imm) r
