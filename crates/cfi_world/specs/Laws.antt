-- What the events of a world make of its guests, over every list of events.
use Rattle.std.specs.Prelude.{◌≡◌, ◌≢◌, ◌⊎◌, ℕ, ◌+◌, ◌%◌, ◌^◌, ◌≤◌, ◌<◌, List, [], ◌∷◌, slice_get, Option, Some, None, ⊤}
use Rattle.cfi_word.specs.declared.lists.Image.{Image}
use Rattle.cfi_word.specs.Rank.{stores_of}
use Rattle.cfi_word.specs.Table.{IsSize, Tary, Bary, slots_of}
use Rattle.cfi_word.specs.Word.{epoch_in}
use Rattle.cfi_word.specs.declared.services.TheConstants.{TOO_MANY}
use Rattle.cfi_model.specs.History.{History}
use Rattle.cfi_model.specs.InForce.{history_of, code_in_force, tary_index}
use Rattle.cfi_model.specs.Raw.{Raw}
use Rattle.cfi_model.specs.Running.{IsGuest}
use Rattle.cfi_model.specs.Log.{pick_entries}
use Rattle.cfi_model.specs.Service.{Reply}
use Rattle.cfi_model.specs.Shows.{End, IsStep}
use Rattle.cfi_model.specs.State.{State}
use Rattle.cfi_model.specs.Tables.{IsTables}
use Rattle.cfi_model.specs.Words.{Tables, epoch_in_force, policy_in_force, next_epoch, word_at}
use Rattle.cfi_model.specs.World.{World, opened_world}
use Rattle.cfi_world.specs.Counts.{HasRepeated}
use Rattle.cfi_world.specs.Premises.{CanOpen, MayTurn}
use Rattle.cfi_world.specs.Turns.{reply_in, turn_of}
use Rattle.cfi_world.specs.Worlds.{IsWorld}
use Rattle.cfi_world.specs.declared.event.Event.{Event}
use Rattle.cfi_world.specs.declared.event.Event.TheVariants as events

-- the answer that an event gives
abbrev pub answer_in : Event → Option Reply
answer_in (events.Answer guest answer) = Some (reply_in answer)
answer_in event = None

-- a service ends with the answer that is given, and else has found too many opens
abbrev pub IsBrought : (given : Option Reply) → Reply → Type 0
IsBrought None reply = reply.cause ≡ TOO_MANY
IsBrought (Some given) reply = reply ≡ given

-- the policy machine has run one unit, a check under the policy of the two words that the guest kept, a service with
-- the answer that was given; the tries that it has repeated are those that the guest had repeated before, which logs a
-- pick; and the guest stands where the next unit begins
pub record IsStepped (h : History) (code : List ℕ) (given : Option Reply) (retries : ℕ) (s : State) (r now : Raw)
    (more : ℕ) (after : State) : Type 0 where
  pub end : End
  pub bary : end.bary ≡ r.bary
  pub tary : end.tary ≡ r.tary
  pub step : IsStep h code end s after
  pub brings : (reply : Reply) → end.reply ≡ Some reply → IsBrought given reply
  pub least : retries ≤ more
  pub tries : ℕ
  pub repeated : HasRepeated h code retries s r tries
  pub retried : more ≡ retries + tries
  pub logged : more ≢ retries → 0 < pick_entries after.log
  pub picks : pick_entries s.log ≤ pick_entries after.log
  pub begins : after.stop ≡ None → now.base.pc ≡ after.pc
  pub fresh : after.stop ≡ None → now.tary ≡ None

-- a guest after an event: it shows what it showed, or the policy machine's state one unit later
pub record IsRefined (old new : World) (given : Option Reply) (guest : ℕ) (r : Raw) (retries : ℕ) (s : State)
    : Type 0 where
  pub now : Raw
  pub there : slice_get new.guests guest ≡ Some now
  pub more : ℕ
  pub after : State
  pub runs : IsGuest (history_of new.tables) (code_in_force new.tables) more after now
  pub moves : ((more ≡ retries) × (after ≡ s))
      ⊎ IsStepped (history_of old.tables) (code_in_force old.tables) given retries s r now more after

-- whatever a guest shows, every event refines it
abbrev pub TurnsRefine : Type 0
TurnsRefine =
    (w : World) → IsWorld w → (event : Event) → MayTurn w event →
    (guest : ℕ) (r : Raw) → slice_get w.guests guest ≡ Some r →
    (retries : ℕ) (s : State) → IsGuest (history_of w.tables) (code_in_force w.tables) retries s r →
    IsRefined w (turn_of w event).world (answer_in event) guest r retries s

-- the event is none of the guest's, and no answer to it
abbrev pub IsAnothers : Event → (guest : ℕ) → Type 0
IsAnothers (events.Guest other) guest = other ≢ guest
IsAnothers (events.Answer other answer) guest = other ≢ guest
IsAnothers event guest = ⊤

-- which leaves the guest as it is
abbrev pub OthersStay : Type 0
OthersStay =
    (w : World) (event : Event) (guest : ℕ) → IsAnothers event guest →
    slice_get (turn_of w event).world.guests guest ≡ slice_get w.guests guest

-- the event is the updater's
abbrev pub IsUpdates : Event → Type 0
IsUpdates (events.Begin image) = ⊤
IsUpdates events.Update = ⊤
IsUpdates event = ⊥

-- no other changes the tables, and what is in force never falls
abbrev pub OnlyUpdatesStore : Type 0
OnlyUpdatesStore =
    (w : World) (event : Event) → (IsUpdates event → ⊥) → (turn_of w event).world.tables ≡ w.tables

-- epoch and policy in force never fall
abbrev pub ForceNeverFalls : Type 0
ForceNeverFalls =
    (w : World) → IsWorld w → (event : Event) → MayTurn w event →
    (epoch_in_force w.tables ≤ epoch_in_force (turn_of w event).world.tables)
    × (policy_in_force w.tables ≤ policy_in_force (turn_of w event).world.tables)

-- what a slot's load finds is not of a later epoch than the one in force, and where an update to a later epoch has
-- begun, its last Bary word was not stored yet
pub record IsBaryLoad (t : Tables) (slot : ℕ) : Type 0 where
  pub settled : epoch_in (word_at t (Bary slot)) ≤ epoch_in_force t
  pub unfinished : epoch_in (word_at t (Bary slot)) + 1 < next_epoch t → t.stored < stores_of t.code_words

-- a load of a slot's word finds the word of an entry
abbrev pub BaryLoads : Type 0
BaryLoads = (t : Tables) → IsTables t → (slot : ℕ) → slot < slots_of t.code_words → IsBaryLoad t slot

-- what a target's load finds is not of an earlier epoch than the one in force; where it is of a later one, the update
-- to that epoch has made its first Tary store
pub record IsTaryLoad (t : Tables) (address : ℕ) : Type 0 where
  pub settled : epoch_in_force t ≤ epoch_in (word_at t (Tary (tary_index t.code_words address)))
  pub begun : epoch_in_force t < epoch_in (word_at t (Tary (tary_index t.code_words address)))
      → t.code_words < t.stored

-- so does a load of an address's word
abbrev pub TaryLoads : Type 0
TaryLoads = (t : Tables) → IsTables t → (address : ℕ) → IsTaryLoad t address

-- a Tary word with the version of the Bary word that the guest keeps is of its epoch, which is the one in force
abbrev pub PicksAreInForce : Type 0
PicksAreInForce =
    (w : World) → IsWorld w → (guest : ℕ) (r : Raw) → slice_get w.guests guest ≡ Some r → r.base.stop ≡ None →
    (kept address : ℕ) → r.bary ≡ Some kept →
    let word = word_at w.tables (Tary (tary_index w.tables.code_words address)) in
    epoch_in kept % w.tables.versions ≡ epoch_in word % w.tables.versions →
    (epoch_in kept ≡ epoch_in word) × (epoch_in word ≡ epoch_in_force w.tables)

-- each event of a list may come where it comes
abbrev pub MayTurns : World → List Event → Type 0
MayTurns w [] = ⊤
MayTurns w (event ∷ later) = MayTurn w event × MayTurns (turn_of w event).world later

-- the world after a list of events
abbrev pub world_after : World → List Event → World
world_after w [] = w
world_after w (event ∷ later) = world_after (turn_of w event).world later

-- a world as it is opened is one, and after any list of events it still is
abbrev pub OpensAWorld : Type 0
OpensAWorld =
    (code_words versions first : ℕ) (image : Image) (guests : List Raw) (room fuel : ℕ) → IsSize code_words →
    CanOpen code_words versions first image guests fuel → room < 2 ^ 32 → fuel < 2 ^ 32 →
    IsWorld (opened_world code_words versions first image guests room fuel)

-- a world stays one, whatever events it may be given
abbrev pub StaysAWorld : Type 0
StaysAWorld = (w : World) → IsWorld w → (events : List Event) → MayTurns w events → IsWorld (world_after w events)
