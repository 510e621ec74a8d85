-- A world in which each kind of turn comes: a guest of each of two modules, of which the first opens module 0.
use Rattle.std.specs.Prelude.{ℕ, ◌-◌, ◌*◌, ◌+◌, List, [], ◌∷◌, ◌++◌, replicate, Some, None}
use Rattle.cfi_word.specs.Rank.{stores_of}
use Rattle.cfi_word.specs.Table.{slots_of}
use Rattle.cfi_word.specs.declared.ids.TheConstants.{FIELD_MAX}
use Rattle.cfi_word.specs.declared.limits.TheConstants.{GUESTS, MAX_EPOCH, MIN_CODE_WORDS, MIN_VERSIONS}
use Rattle.cfi_word.specs.declared.lists.Image.{Image}
use Rattle.cfi_word.specs.declared.map.TheConstants.{FIRST_BASE}
use Rattle.cfi_model.specs.Raw.{Raw, raw_opened}
use Rattle.cfi_model.specs.World.{World, opened_world}
use Rattle.cfi_world.specs.Turns.{turn_of}
use Rattle.cfi_world.specs.declared.event.Event.{Event}
use Rattle.cfi_world.specs.declared.event.Event.TheVariants.{Guest, Begin, Update, Answer, Release}
use Rattle.cfi_world.specs.declared.event.Turned.{Turned}
use Rattle.cfi_world.specs.declared.event.Turned.TheVariants.{Did, Asks, VersionsSpent, EpochsSpent, Nothing}

-- two modules: `addi x17,x0,4`, `ecall`, `j .`, and behind it `j .` alone
abbrev pub open_code : List ℕ
open_code = (0x400893 ∷ 0x73 ∷ 0x6f ∷ []) ++ (0x6f ∷ [])

-- the image of both modules, before any is loaded
abbrev pub open_image : Image
open_image = record {
  code = replicate FIRST_BASE 0 ++ open_code ++ replicate (MIN_CODE_WORDS - FIRST_BASE - 4) 0;
  tary = replicate MIN_CODE_WORDS 0;
  bary = replicate (slots_of MIN_CODE_WORDS) FIELD_MAX;
}

-- the two guests, each at its entry
abbrev pub open_guests : List Raw
open_guests = raw_opened 0 (4 * FIRST_BASE) [] ∷ raw_opened 1 (4 * (FIRST_BASE + 3)) [] ∷ []

-- room for three updates, and fuel for three instructions
abbrev pub open_world : World
open_world = opened_world MIN_CODE_WORDS MIN_VERSIONS 0 open_image open_guests 3 3

-- the same world at the greatest epoch, where no update begins any more
abbrev pub last_world : World
last_world = opened_world MIN_CODE_WORDS MIN_VERSIONS MAX_EPOCH open_image open_guests 3 3

-- events where no epoch is left
abbrev pub last_events : List Event
last_events = Begin None ∷ Begin (Some open_image) ∷ Update ∷ []

-- their answers
abbrev pub last_answers : List Turned
last_answers = EpochsSpent ∷ EpochsSpent ∷ Nothing ∷ []

-- the module was not loaded
abbrev pub unloaded : Event
unloaded = Answer 0 (record { address = 0; cause = 10; policy = 0; fills = record { now = []; ref_ptr = (0, 0) } })

-- guest 0 opens module 0 in vain, leaves that service, and its fuel stops it; guest 1 has no event, and there is no
-- guest 2
abbrev pub guest_events : List Event
guest_events =
    Guest 2 ∷ Guest 0 ∷ Guest 0 ∷ Guest 0 ∷ Guest 0 ∷ unloaded ∷ unloaded ∷ Guest 0 ∷ Guest 0 ∷ Guest 0 ∷ Guest 0
    ∷ Release 1 ∷ []

-- the answers to the events of guests
abbrev pub guest_answers : List Turned
guest_answers =
    Nothing ∷ Did ∷ Did ∷ Asks 0 0 ∷ Nothing ∷ Did ∷ Nothing ∷ Did ∷ Did ∷ Did ∷ Nothing ∷ Nothing ∷ []

-- a refresh tests all guests, and stores each word but those of the code; no other update begins, and no guest is
-- released, while it is under way
abbrev pub refresh_count : ℕ
refresh_count = GUESTS + (stores_of MIN_CODE_WORDS - MIN_CODE_WORDS)

-- a refresh, and events that it keeps from coming
abbrev pub refresh_events : List Event
refresh_events = Begin None ∷ Begin None ∷ Release 0 ∷ replicate refresh_count Update

-- their answers
abbrev pub refresh_answers : List Turned
refresh_answers = Did ∷ Nothing ∷ Nothing ∷ replicate refresh_count Did

-- guest 0 is released, once; the next refresh is refused for guest 1, which has been at no quiescent point since
abbrev pub refused_events : List Event
refused_events = Update ∷ Release 0 ∷ Release 0 ∷ Begin None ∷ Update ∷ Update ∷ []

-- the answers to a refresh for which a guest is too far behind
abbrev pub refused_answers : List Turned
refused_answers = Nothing ∷ Did ∷ Nothing ∷ Did ∷ Did ∷ VersionsSpent 1 0 ∷ []

-- all events, in order
abbrev pub open_events : List Event
open_events = guest_events ++ (refresh_events ++ refused_events)

-- their answers
abbrev pub open_answers : List Turned
open_answers = guest_answers ++ (refresh_answers ++ refused_answers)

-- what came of each event of a list
abbrev pub turned_after : World → List Event → List Turned
turned_after w [] = []
turned_after w (event ∷ later) = (turn_of w event).answer ∷ turned_after (turn_of w event).world later
