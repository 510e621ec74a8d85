-- A guest that calls a function through a pointer, and worlds in which its check is tried again: a refresh, or a load
-- of one function more of that type, comes between the check's two table loads.
use Rattle.std.specs.Prelude.{ℕ, zero, suc, ◌-◌, ◌*◌, ◌+◌, List, [], ◌∷◌, ◌++◌, length, map, replicate, Option, Some, None}
use Rattle.cfi_unit.specs.declared.log.Log.{Log}
use Rattle.cfi_unit.specs.declared.log.Log.TheVariants.{Pick}
use Rattle.cfi_unit.specs.declared.log.Stop.{Stop}
use Rattle.cfi_unit.specs.declared.log.Stop.TheVariants.{Exit}
use Rattle.cfi_word.specs.Rank.{stores_of}
use Rattle.cfi_word.specs.Table.{slots_of}
use Rattle.cfi_word.specs.declared.ids.TheConstants.{FIELD_MAX}
use Rattle.cfi_word.specs.Word.{packed}
use Rattle.cfi_word.specs.declared.limits.TheConstants.{GUESTS, MIN_CODE_WORDS, MAX_VERSIONS}
use Rattle.cfi_word.specs.declared.lists.Image.{Image}
use Rattle.cfi_word.specs.declared.map.TheConstants.{FIRST_BASE}
use Rattle.cfi_model.specs.declared.phase.Phase.{Phase}
use Rattle.cfi_model.specs.declared.phase.Phase.TheVariants as phases
use Rattle.cfi_model.specs.Phases.{phase_of}
use Rattle.cfi_model.specs.Raw.{Raw, raw_opened}
use Rattle.cfi_model.specs.Words.{Tables, epoch_in_force, policy_in_force}
use Rattle.cfi_model.specs.World.{World, opened_world}
use Rattle.cfi_world.specs.Checks.{IsPlaced}
use Rattle.cfi_world.specs.Example.{refresh_count}
use Rattle.cfi_world.specs.Laws.{world_after}
use Rattle.cfi_world.specs.Moments.{IsTryOf}
use Rattle.cfi_world.specs.Turns.{turn_of}
use Rattle.cfi_world.specs.declared.event.Event.{Event}
use Rattle.cfi_world.specs.declared.event.Event.TheVariants.{Guest, Begin, Update}
use Rattle.cfi_world.specs.declared.event.Turned.{Turned}
use Rattle.cfi_world.specs.declared.event.Turned.TheVariants.{Did, VersionsSpent}

-- a check, by its first word, its load of a Bary word and its last word
abbrev pub check_code : (first load last : ℕ) → List ℕ
check_code first load last =
    first ∷ 0x12fdf13 ∷ 0x20f1463 ∷ 0x20000e37 ∷ load ∷ 0x10000f37 ∷ 0x1ff0f33 ∷ 0xf2f03 ∷ 0x1ee8a63 ∷ 0x1df4f33
    ∷ 0x10f1f13 ∷ 0xfe0f10e3 ∷ 0x100073 ∷ last ∷ []

-- `jalr x1,0(x5)` with slot 0, and a return with slot 1 or 2
abbrev pub call_check : List ℕ
call_check = check_code 0x28f93 0xe2e83 0xf80e7

-- a check that returns, whose slot is loaded so
abbrev pub return_check : (load : ℕ) → List ℕ
return_check load = check_code 0x8f93 load 0xf8067

-- main: `auipc x5,0`, `addi x5,x5,84`, the call, `addi x17,x0,3`, `ecall`, `addi x17,x0,1`, `ecall`, `j .`; then the
-- function
abbrev pub call_code : List ℕ
call_code =
    0x297 ∷ 0x5428293 ∷ (call_check ++ (0x300893 ∷ 0x73 ∷ 0x100893 ∷ 0x73 ∷ 0x6f ∷ return_check 0x4e2e83))

-- the module that comes later: one more function
abbrev pub more_code : List ℕ
more_code = return_check 0x8e2e83

-- lists of a table's length, with the rest filled up
abbrev pub padded : (size : ℕ) → (front : List ℕ) → (fill : ℕ) → List ℕ
padded size front fill = front ++ replicate (size - length front) fill

-- the function's first word is word 37, the place after the call word 32; slots 0 and 1 go there
abbrev pub call_tary : List ℕ
call_tary = replicate 32 0 ++ (2 ∷ (replicate 4 0 ++ (1 ∷ [])))

-- the image of the caller and the function
abbrev pub call_image : Image
call_image = record {
  code = padded MIN_CODE_WORDS (replicate FIRST_BASE 0 ++ call_code) 0;
  tary = padded MIN_CODE_WORDS call_tary 0;
  bary = padded (slots_of MIN_CODE_WORDS) (1 ∷ 2 ∷ []) FIELD_MAX;
}

-- the second function's first word is word 51, and slot 2 goes where slot 1 does
abbrev pub more_image : Image
more_image = record {
  code = padded MIN_CODE_WORDS ((replicate FIRST_BASE 0 ++ call_code) ++ more_code) 0;
  tary = padded MIN_CODE_WORDS (call_tary ++ (replicate 13 0 ++ (1 ∷ []))) 0;
  bary = padded (slots_of MIN_CODE_WORDS) (1 ∷ 2 ∷ 2 ∷ []) FIELD_MAX;
}

-- the guest, at the caller's entry
abbrev pub call_guests : List Raw
call_guests = raw_opened 0 (4 * FIRST_BASE) [] ∷ []

-- room for four updates, and fuel for a hundred instructions
abbrev pub call_world : (versions : ℕ) → World
call_world versions = opened_world MIN_CODE_WORDS versions 0 call_image call_guests 4 100

-- so many events of the guest: the first eight end with the load of its slot's word, the next eight with the branch back
-- to its second try
abbrev pub goes : (count : ℕ) → List Event
goes count = replicate count (Guest 0)

-- how many events lead to the load of the slot's word
abbrev pub to_bary : ℕ
to_bary = 8

-- how many lead on to where the check begins again
abbrev pub to_retry : ℕ
to_retry = 8

-- a load tests all guests, and stores the second function, all Tary words, EPOCH and all Bary words
abbrev pub load_count : ℕ
load_count = GUESTS + length more_code + (stores_of MIN_CODE_WORDS - MIN_CODE_WORDS)

-- the load of one function more, as far as so many accesses of the updater
abbrev pub loads : (count : ℕ) → List Event
loads count = Begin (Some more_image) ∷ replicate count Update

-- a refresh, to its end
abbrev pub refresh : List Event
refresh = Begin None ∷ replicate refresh_count Update

-- a load between the two table loads of the check
abbrev pub retry_events : List Event
retry_events = goes to_bary ++ (loads load_count ++ goes to_retry)

-- the load comes between the check's two loads, and the guest goes on to its end
abbrev pub load_events : List Event
load_events = goes to_bary ++ (loads load_count ++ goes (to_retry + 29))

-- with three versions, a refresh there, one that is refused for the guest, and one after its quiescent point
abbrev pub refused_events : List Event
refused_events = Begin None ∷ Update ∷ []

-- a refresh comes between them; another is refused before the guest is through, and comes after its next service
abbrev pub refresh_events : List Event
refresh_events = goes to_bary ++ (refresh ++ (refused_events ++ (goes 34 ++ (refresh ++ goes 3))))

-- so many events that have happened
abbrev pub all_did : (count : ℕ) → List Turned
all_did count = replicate count Did

-- what comes of the events with refreshes
abbrev pub refresh_answers : List Turned
refresh_answers =
    all_did (to_bary + (1 + refresh_count) + 1)
    ++ (VersionsSpent 0 0 ∷ all_did (34 + (1 + refresh_count) + 3))

-- after the one that is refused the guest parks in a service, and two refreshes follow; it then leaves and ends
abbrev pub parked_events : List Event
parked_events =
    goes to_bary ++ (refresh ++ (refused_events ++ (goes 32 ++ (refresh ++ (refresh ++ goes 5)))))

-- what comes of them where the guest is parked
abbrev pub parked_answers : List Turned
parked_answers =
    all_did (to_bary + (1 + refresh_count) + 1)
    ++ (VersionsSpent 0 0 ∷ all_did (32 + 2 * (1 + refresh_count) + 5))

-- two refreshes come between the guest's load of EPOCH in its service and its store of what it has found; the next one
-- is refused for that
abbrev pub found_events : List Event
found_events =
    goes to_bary ++ (refresh ++ (goes 33 ++ (refresh ++ (refresh ++ (goes 1 ++ (refused_events ++ goes 3))))))

-- what comes of them where an update finds what the guest has published
abbrev pub found_answers : List Turned
found_answers =
    all_did (to_bary + (1 + refresh_count) + 33 + 2 * (1 + refresh_count) + 2)
    ++ (VersionsSpent 0 1 ∷ all_did 3)

-- what a guest has come to
pub record Ending : Type 0 where
  pub log : List Log
  pub stop : Option Stop
  pub units : ℕ
  pub steps : ℕ

-- how a guest has ended
abbrev pub ending_of : Raw → Ending
ending_of r = record { log = r.base.log; stop = r.base.stop; units = r.base.units; steps = r.base.steps }

-- how all have, after some events
abbrev pub endings_after : World → List Event → List Ending
endings_after w events = map ending_of (world_after w events).guests

-- the table words that a guest keeps
pub record Kept : Type 0 where
  pub bary : Option ℕ
  pub tary : Option ℕ

-- the table words that a check keeps between its loads
abbrev pub kept_of : Raw → Kept
kept_of r = record { bary = r.bary; tary = r.tary }

-- those of all guests, after some events
abbrev pub kept_after : World → List Event → List Kept
kept_after w events = map kept_of (world_after w events).guests

-- the word of the first epoch and policy with the class of slot 0, and that of the next ones
abbrev pub tried_words : Kept
tried_words = record { bary = Some (packed 0 0 1 MAX_VERSIONS); tary = Some (packed 1 1 1 MAX_VERSIONS) }

-- eight units in 26 instructions and the nine of a second try; both checks have picked one policy
abbrev pub picked_ending : (policy : ℕ) → Ending
picked_ending policy = record {
  log = Pick policy 2 ∷ [];
  stop = Some (Exit 0);
  units = 8;
  steps = 35;
}

-- the phases of the update, one after the other
abbrev pub phases_along : World → List Event → List Phase
phases_along w [] = []
phases_along w (event ∷ later) = phase_of (turn_of w event).world.tables ∷ phases_along (turn_of w event).world later

-- so many phases of one kind, by their numbers
abbrev pub counted : (phase : ℕ → Phase) → (from count : ℕ) → List Phase
counted phase from zero = []
counted phase from (suc count) = phase from ∷ counted phase (from + 1) count

-- code words on which the images agree are not stored
abbrev pub load_phases : List Phase
load_phases =
    counted phases.Testing 0 GUESTS
    ++ (counted phases.Code 51 (length more_code)
    ++ (counted phases.Tary 0 MIN_CODE_WORDS
    ++ (phases.Epoch ∷ (counted phases.Bary 0 (slots_of MIN_CODE_WORDS) ++ (phases.Idle ∷ [])))))

-- the epochs and policies in force
pub record Force : Type 0 where
  pub epoch : ℕ
  pub policy : ℕ

-- what is in force
abbrev pub force_of : Tables → Force
force_of t = record { epoch = epoch_in_force t; policy = policy_in_force t }

-- what is in force after each event
abbrev pub forces_along : World → List Event → List Force
forces_along w [] = []
forces_along w (event ∷ later) = force_of (turn_of w event).world.tables ∷ forces_along (turn_of w event).world later

-- they change at the one store of EPOCH, after the tests and the stores of the second function and of all Tary words
abbrev pub load_forces : List Force
load_forces =
    replicate (1 + GUESTS + length more_code + MIN_CODE_WORDS) (record { epoch = 0; policy = 0 })
    ++ replicate (1 + slots_of MIN_CODE_WORDS) (record { epoch = 1; policy = 1 })

-- without an update its check's one try: with the last of the first eight events, and with the fourth one after it
abbrev pub HasTry : Type 0
HasTry = IsTryOf (call_world MAX_VERSIONS) (goes (to_bary + 4)) 0 0 148 (to_bary - 1) (to_bary + 3)

-- the guest on the last word of its check, the jump to the function, to which nothing has led it
abbrev pub put_guest : Raw
put_guest = record (raw_opened 0 (4 * (FIRST_BASE + 15)) []) { x31 = 148 }

-- a guest that is put where no unit leads stands in none
abbrev pub NobodyIsPutThere : Type 0
NobodyIsPutThere = IsPlaced (call_world MAX_VERSIONS) put_guest → ⊥
