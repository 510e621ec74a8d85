-- Which event on what is shared each kind of step is. The keeper's seat is the seat 0.
-- No events are the opening, the store that registers a guest, splits and joins, and two loads of the keeper, which
-- change nothing: of a code word, before it is stored, and of EPOCH, with a note.
use Rattle.std.specs.Prelude.{◌≡◌, ℕ, ◌+◌, ◌-◌, ◌<◌, ◌^◌, List, [], length, slice_index, Some, if◌then◌else◌, Bool, true, false}
use mathlib.Core.Option.{some, none}
use lib.ListN.{get_elem?}
use Rattle.atomic_table.specs.Table.{State, Act, opening, step, stepped}
use Rattle.cfi_word.specs.declared.limits.TheConstants.{GUESTS, MAX_EPOCH}
use Rattle.cfi_word.specs.Table.{Place, IsPlace, quiet_word, word_number}
use Rattle.cfi_word.specs.Table as places
use Rattle.cfi_model.specs.declared.history.Entry.{Entry}
use Rattle.cfi_model.specs.declared.quiet.TheConstants.{PARKED}
use Rattle.cfi_model.specs.SharedEvents.{Past, Shared, SharedEvent, AreSame, Makes, IsSet}
use Rattle.cfi_model.specs.SharedEvents as events
use Rattle.cfi_model.specs.Tables.{IsTables}
use Rattle.cfi_model.specs.Words.{HasStore, next_epoch}
use Rattle.cfi_tables.specs.Key.{Key}
use Rattle.cfi_tables.specs.Keeping.{entry_by, opened_keeping}
use Rattle.cfi_tables.specs.Loads.{MayLoad, TellsEpoch}
use Rattle.cfi_tables.specs.Rule.{KeepsRule}
use Rattle.cfi_tables.specs.Views.{idle_tables, idle_view, opened_view, tables_of}
use Rattle.cfi_tables.specs.inner.Steps.{Seated, Clears, Fetches, Loads, Looks, Parks, Publishes, Registers, Stores, Tells, Tests, is_passed}
use Rattle.cfi_tables.specs.declared.view.KeeperView.{KeeperView}
use Rattle.cfi_tables.specs.declared.view.PassView.{PassView}
use Rattle.cfi_tables.specs.declared.view.View.{View}
use Rattle.cfi_tables.specs.declared.view.View.TheVariants.{Keeper, Pass}

-- the tables as a whole: their words, and what each seat knows
abbrev pub TableState : Type 0
TableState = State (Unit {0}) View

-- what is shared: the words, and what the keeper's view has of the past
abbrev pub past_of : Key → KeeperView → Past
past_of k u = record {
  code_words = k.code_words;
  versions = k.versions;
  first = k.first;
  entries = u.entries;
  tested = u.tested;
}

-- what all threads share, of the words and what the keeper sees
abbrev pub shared_of : Key → (words : List ℕ) → KeeperView → Shared
shared_of k words u = record {
  past = past_of k u;
  word = λ place. slice_index words (word_number k.code_words place);
}

-- a step of a seat, as `atomic_table` makes it, under the rule: its view is the old one, a word of this number becomes
-- this one, and then its view is the new one
pub record IsSeatStep (k : Key) (seat number word : ℕ) (old new : Seated) (s t : TableState) : Type 0 where
  pub before : KeepsRule k s
  pub there : get_elem? s.views seat ≡ some old.0
  pub act : Act (Unit {0})
  pub is : t ≡ stepped s number word seat old.1 new.0 act
  pub after : KeepsRule k t

-- what is shared before and after is related
abbrev pub Relates : (Shared → Shared → Type 0) → (k : Key) (s t : TableState) → KeepsRule k s → KeepsRule k t → Type 0
Relates related k s t before after =
    related (shared_of k s.words before.keeper) (shared_of k t.words after.keeper)

-- ---- steps of a pass

-- each load of a pass is a load of the word of its place
abbrev pub LoadsAreEvents : Type 0
LoadsAreEvents =
    (k : Key) (slots seat : ℕ) (p : PassView) (new : Seated) (s t : TableState) (place : Place) →
    let number = word_number k.code_words place in
    let found = slice_index s.words number in
    (one : IsSeatStep k seat number found (Pass p, []) new s t) →
    Loads k (step slots number 0 0 none) (Pass p, []) found new →
    Relates (Makes (events.Load place found)) k s t one.before one.after

-- each fetch of one is a load of the code's word
abbrev pub FetchesAreEvents : Type 0
FetchesAreEvents =
    (k : Key) (slots seat : ℕ) (p : PassView) (new : Seated) (s t : TableState) (index : ℕ) →
    let number = word_number k.code_words (places.Code index) in
    let found = slice_index s.words number in
    (one : IsSeatStep k seat number found (Pass p, []) new s t) →
    Fetches k (step slots number 0 0 none) (Pass p, []) found new →
    Relates (Makes (events.Load (places.Code index) found)) k s t one.before one.after

-- a guest that is not parked parks; where one that is parked stores its word again, nothing changes
abbrev pub MakesParkBy : (parked : Bool) → (guest : ℕ) → (old new : Shared) → Type 0
MakesParkBy true guest old new = AreSame old new
MakesParkBy false guest old new = Makes (events.Park guest) old new

-- parking, and its end, is an event of the guest
abbrev pub ParksAreEvents : Type 0
ParksAreEvents =
    (k : Key) (slots seat word : ℕ) (p : PassView) (new : Seated) (s t : TableState) →
    (one : IsSeatStep k seat (quiet_word p.guest) word (Pass p, []) new s t) →
    Parks (step slots (quiet_word p.guest) word 0 none) (Pass p, []) word new →
    Relates (MakesParkBy p.parked p.guest) k s t one.before one.after

-- a guest that is parked publishes; a quiescent point of one that is not, in no service, sets its QUIET word alone
abbrev pub MakesPublishBy : (parked : Bool) → (guest epoch : ℕ) → (old new : Shared) → Type 0
MakesPublishBy true guest epoch old new = Makes (events.Publish guest epoch) old new
MakesPublishBy false guest epoch old new = IsSet (places.Quiet guest) (epoch + 1) old new

-- what is published is the latest epoch that was seen
abbrev pub PublishesAreEvents : Type 0
PublishesAreEvents =
    (k : Key) (slots seat word : ℕ) (p : PassView) (new : Seated) (s t : TableState) →
    (one : IsSeatStep k seat (quiet_word p.guest) word (Pass p, []) new s t) →
    Publishes (step slots (quiet_word p.guest) word 0 none) (Pass p, []) word new →
    Relates (MakesPublishBy p.parked p.guest p.sight.latest) k s t one.before one.after

-- ---- steps of the keeper

-- by the test of the word that was found
abbrev pub tested_event : Key → Entry → (found : ℕ) → KeeperView → SharedEvent
tested_event k entry found u =
    if is_passed k u found then events.Pass entry
    else events.Refuse u.tested (found - 1) (next_epoch (tables_of k u))

-- each test of the keeper is one of the word of the guest
abbrev pub TestsAreEvents : Type 0
TestsAreEvents =
    (k : Key) (slots : ℕ) (u : KeeperView) (new : Seated) (s t : TableState) (entry : Entry) → u.tested < GUESTS →
    let number = quiet_word u.tested in
    let found = slice_index s.words number in
    (one : IsSeatStep k 0 number found (Keeper u, []) new s t) →
    Tests k entry (step slots number 0 0 none) (Keeper u, []) found new →
    Relates (Makes (tested_event k entry found u)) k s t one.before one.after

-- each store of an update is one of the word of its place
abbrev pub StoresAreEvents : Type 0
StoresAreEvents =
    (k : Key) (slots word : ℕ) (u : KeeperView) (new : Seated) (s t : TableState) (place : Place) →
    IsPlace k.code_words place → HasStore place →
    let number = word_number k.code_words place in
    (one : IsSeatStep k 0 number word (Keeper u, []) new s t) →
    Stores k (step slots number word 0 none) (Keeper u, []) word new →
    Relates (Makes (events.Store place)) k s t one.before one.after

-- giving a guest's word back is the guest's leaving
abbrev pub ClearsAreEvents : Type 0
ClearsAreEvents =
    (k : Key) (slots : ℕ) (u : KeeperView) (p : PassView) (new : Seated) (s t : TableState) → u.held ≡ Some p →
    (one : IsSeatStep k 0 (quiet_word p.guest) 0 (Keeper u, []) new s t) →
    Clears k (step slots (quiet_word p.guest) 0 0 none) (Keeper u, []) 0 new →
    Relates (Makes (events.Leave p.guest)) k s t one.before one.after

-- ---- steps of the keeper that are none

-- registering a guest sets its word and no other
abbrev pub RegistersSetOne : Type 0
RegistersSetOne =
    (k : Key) (slots word guest : ℕ) (u : KeeperView) (new : Seated) (s t : TableState) → guest < GUESTS →
    (one : IsSeatStep k 0 (quiet_word guest) word (Keeper u, []) new s t) →
    Registers k (step slots (quiet_word guest) word 0 none) (Keeper u, []) word new →
    Relates (IsSet (places.Quiet guest) word) k s t one.before one.after

-- what the keeper loads to look changes nothing
abbrev pub LooksChangeNothing : Type 0
LooksChangeNothing =
    (k : Key) (slots number : ℕ) (u : KeeperView) (new : Seated) (s t : TableState) →
    let found = slice_index s.words number in
    (one : IsSeatStep k 0 number found (Keeper u, []) new s t) →
    Looks k (step slots number 0 0 none) (Keeper u, []) found new →
    Relates AreSame k s t one.before one.after

-- telling a pass what the keeper has seen changes nothing
abbrev pub TellsChangeNothing : Type 0
TellsChangeNothing =
    (k : Key) (slots number : ℕ) (u : KeeperView) (new : Seated) (s t : TableState) →
    let found = slice_index s.words number in
    (one : IsSeatStep k 0 number found (Keeper u, []) new s t) →
    Tells k (step slots number 0 0 none) (Keeper u, []) found new →
    Relates AreSame k s t one.before one.after

-- ---- such steps come

-- some step of the kind comes of a seat, at this word
pub record StepComes (k : Key) (seat number word : ℕ) (old : Seated) (s : TableState) (kind : Seated → Type 0)
    : Type 0 where
  pub new : Seated
  pub t : TableState
  pub one : IsSeatStep k seat number word old new s t
  pub is : kind new

-- the test of the first QUIET word, of a refresh, at the opening
abbrev pub TestsCome : Type 0
TestsCome =
    (k : Key) → IsTables (idle_tables k (opened_keeping k)) → k.first < MAX_EPOCH →
    ((index : ℕ) → slice_index k.image.code index < 2 ^ 32) →
    let me : Seated = (Keeper (idle_view k (opened_keeping k)), []) in
    (words : List ℕ) × StepComes k 0 (quiet_word 0) (slice_index words (quiet_word 0)) me
    (opening words [] (opened_view k))
    (Tests k (entry_by 0 k.image 0) (step 0 (quiet_word 0) 0 0 none) me (slice_index words (quiet_word 0)))

-- a pass's load of a word that tells an epoch, wherever its seat is
abbrev pub LoadsCome : Type 0
LoadsCome =
    (k : Key) (slots seat : ℕ) (p : PassView) (s : TableState) (place : Place) → KeepsRule k s → length s.homes ≡ slots →
    get_elem? s.views seat ≡ some (Pass p) → IsPlace k.code_words place → TellsEpoch place → MayLoad p place →
    let number = word_number k.code_words place in
    let found = slice_index s.words number in
    found < 2 ^ 64 →
    StepComes k seat number found (Pass p, []) s (Loads k (step slots number 0 0 none) (Pass p, []) found)

-- a pass's store by which its guest parks, wherever its seat is
abbrev pub ParksCome : Type 0
ParksCome =
    (k : Key) (slots seat : ℕ) (p : PassView) (s : TableState) → KeepsRule k s → length s.homes ≡ slots →
    get_elem? s.views seat ≡ some (Pass p) → slice_index s.words (quiet_word p.guest) < 2 ^ 64 →
    StepComes k seat (quiet_word p.guest) PARKED (Pass p, []) s
    (Parks (step slots (quiet_word p.guest) PARKED 0 none) (Pass p, []) PARKED)
