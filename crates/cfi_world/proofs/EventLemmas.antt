-- Which lists of events may come.
use Rattle.std.proofs.Common.{◌≡◌, ℕ, ◌+◌, ◌&&◌, ◌||◌, ◌==◌, ◌<◌, ◌≤◌, cond, Bool, true, false, List, [], ◌∷◌, ◌++◌, slice_get, slice_set, is_some, Option, Some, None, refl, arith}
use Rattle.cfi_word.specs.declared.lists.Image.{Image}
use Rattle.cfi_word.specs.declared.limits.TheConstants.{MAX_EPOCH}
use Rattle.cfi_model.specs.declared.phase.Phase.{Phase}
use Rattle.cfi_model.specs.declared.phase.Phase.TheVariants as phases
use Rattle.cfi_model.specs.declared.quiet.Quiet.{Quiet}
use Rattle.cfi_model.specs.declared.quiet.Quiet.TheVariants.{Unregistered, Parked, Published}
use Rattle.cfi_model.specs.Phases.{phase_of}
use Rattle.cfi_model.specs.Quiet.{admits}
use Rattle.cfi_model.specs.Raw.{Raw}
use Rattle.cfi_model.specs.Service.{Reply}
use Rattle.cfi_model.specs.Words.{epoch_in_force, next_epoch}
use Rattle.cfi_model.specs.World.{World, quiet_of, point_of}
use Rattle.cfi_world.specs.Laws.{MayTurns, world_after}
use Rattle.cfi_world.specs.Premises.{MayBegin, HasRoom, MayTurn}
use Rattle.cfi_world.specs.Seats.{seat_of, seat_after, is_asking}
use Rattle.cfi_world.specs.Turns.{Turn, did, nothing, turn_of, seated, guest_turn, begin_turn, update_turn, answered, answer_turn, is_registered, release_turn, refused, passed_turn, store_turn, reply_in}
use Rattle.cfi_world.specs.Updates.{is_idle, begun}
use Rattle.cfi_world.specs.declared.event.Event.{Event}
use Rattle.cfi_world.specs.declared.event.Event.TheVariants as events
use Rattle.cfi_world.specs.declared.event.Turned.TheVariants.{EpochsSpent}
use Rattle.cfi_world.proofs.ChoiceLemmas.{both_hold}

-- so many updates began at most, and there is room for so many
pub record HasBegun (w : World) (most size : ℕ) : Type 0 where
  pub began : w.updates ≤ most
  pub room : w.room ≡ size

-- how many updates an event begins at most
abbrev pub begins : Event → ℕ
begins (events.Guest guest) = 0
begins (events.Begin image) = 1
begins events.Update = 0
begins (events.Answer guest answer) = 0
begins (events.Release guest) = 0

abbrev pub begins_in : List Event → ℕ
begins_in [] = 0
begins_in (event ∷ later) = begins event + begins_in later

either : (b : Bool) (x y : Turn) (n m : ℕ) → HasBegun x.world n m → HasBegun y.world n m
    → HasBegun (cond b x y).world n m
either true x y n m one other = one
either false x y n m one other = other

module _ (w : World) (n m : ℕ) (is : HasBegun w n m) where
  same_in : (v : World) → v.updates ≡ w.updates → v.room ≡ w.room → HasBegun v n m
  same_in v updates room = record { began = omega (arith, is.began, updates); room = omega (arith, is.room, room) }

  guest_in : (guest : ℕ) (o : Option Raw) → HasBegun (guest_turn w guest o).world n m
  guest_in guest None = is
  guest_in guest (Some r) =
      let next : Turn = seated w guest (seat_after w.tables w.fuel (seat_of w guest r)) in
      either (is_some r.base.stop || is_asking (point_of w guest)) (nothing w) next n m is
      (same_in next.world refl refl)

  refused_in : (guest : ℕ) (quiet : Quiet) → HasBegun (refused w guest quiet).world n m
  refused_in guest Unregistered = is
  refused_in guest Parked = is
  refused_in guest (Published quiet) = same_in (refused w guest (Published quiet)).world refl refl

  update_in : (phase : Phase) → HasBegun (update_turn w phase).world n m
  update_in phases.Idle = is
  update_in (phases.Testing guest) =
      either (admits w.tables.versions (next_epoch w.tables) (quiet_of w guest)) (passed_turn w)
      (refused w guest (quiet_of w guest)) n m (same_in (passed_turn w).world refl refl)
      (refused_in guest (quiet_of w guest))
  update_in (phases.Code next) = same_in (store_turn w).world refl refl
  update_in (phases.Tary next) = same_in (store_turn w).world refl refl
  update_in phases.Epoch = same_in (store_turn w).world refl refl
  update_in (phases.Bary next) = same_in (store_turn w).world refl refl

  answer_in : (guest : ℕ) (reply : Reply) (o : Option Raw) → HasBegun (answer_turn w guest reply o).world n m
  answer_in guest reply None = is
  answer_in guest reply (Some r) =
      either (is_asking (point_of w guest)) (did (answered w guest reply r)) (nothing w) n m
      (same_in (answered w guest reply r) refl refl) is

  release_in : (guest : ℕ) (o : Option Raw) → HasBegun (release_turn w guest o).world n m
  release_in guest None = is
  release_in guest (Some r) =
      let next : World = record w { quiets = slice_set w.quiets guest Unregistered } in
      either (is_some r.base.stop && (is_registered (quiet_of w guest) && is_idle (phase_of w.tables))) (did next)
      (nothing w) n m (same_in next refl refl) is

  more : (v : World) → v.updates ≡ w.updates + 1 → v.room ≡ w.room → HasBegun v (1 + n) m
  more v updates room = record { began = omega (arith, is.began, updates); room = omega (arith, is.room, room) }

  begin_in : (image : Option Image) → HasBegun (begin_turn w image).world (1 + n) m
  begin_in image =
      let as_it_was : HasBegun w (1 + n) m = record { began = omega (arith, is.began); room = is.room } in
      let next : World = record w { tables = begun image w.tables; updates = w.updates + 1 } in
      let spent : Turn = record { world = w; answer = EpochsSpent } in
      either (is_idle (phase_of w.tables)) (cond (epoch_in_force w.tables == MAX_EPOCH) spent (did next)) (nothing w)
      (1 + n) m
      (either (epoch_in_force w.tables == MAX_EPOCH) spent (did next) (1 + n) m as_it_was (more next refl refl))
      as_it_was

  zero_more : {v : World} → HasBegun v n m → HasBegun v (0 + n) m
  zero_more after = record { began = omega (arith, after.began); room = after.room }

  pub turn_in : (event : Event) → HasBegun (turn_of w event).world (begins event + n) m
  turn_in (events.Guest guest) = zero_more (guest_in guest (slice_get w.guests guest))
  turn_in (events.Begin image) = begin_in image
  turn_in events.Update = zero_more (update_in (phase_of w.tables))
  turn_in (events.Answer guest answer) = zero_more (answer_in guest (reply_in answer) (slice_get w.guests guest))
  turn_in (events.Release guest) = zero_more (release_in guest (slice_get w.guests guest))

pub few_after : (list : List Event) (w : World) (n m : ℕ) → HasBegun w n m
    → HasBegun (world_after w list) (begins_in list + n) m
few_after [] w n m is = record { began = omega (arith, is.began); room = is.room }
few_after (event ∷ later) w n m is =
    let after = few_after later (turn_of w event).world (begins event + n) m (turn_in w n m is event) in
    record { began = omega (arith, after.began); room = after.room }

pub has_room : (w : World) (image : Option Image) (n m : ℕ) → HasBegun w n m → n < m → MayBegin w.tables image
    → HasRoom w image
has_room w image n m is less may = record { room = omega (arith, is.began, is.room, less); may = may }

-- an event that asks for no more than room
abbrev pub is_free : Event → Bool
is_free (events.Guest guest) = true
is_free (events.Begin None) = true
is_free (events.Begin (Some image)) = false
is_free events.Update = true
is_free (events.Answer guest answer) = false
is_free (events.Release guest) = true

abbrev pub are_free : List Event → Bool
are_free [] = true
are_free (event ∷ later) = is_free event && are_free later

free_may : (event : Event) (w : World) (n m : ℕ) → is_free event ≡ true → HasBegun w n m → begins event + n ≤ m
    → MayTurn w event
free_may (events.Guest guest) w n m free is fits = tt
free_may (events.Begin None) w n m free is fits = has_room w None n m is (omega (arith, fits)) tt
free_may (events.Begin (Some image)) w n m free is fits = absurd (cc)
free_may events.Update w n m free is fits = tt
free_may (events.Answer guest answer) w n m free is fits = absurd (cc)
free_may (events.Release guest) w n m free is fits = tt

pub refreshes_may : (list : List Event) (w : World) (n m : ℕ) → are_free list ≡ true → HasBegun w n m
    → begins_in list + n ≤ m → MayTurns w list
refreshes_may [] w n m free is fits = tt
refreshes_may (event ∷ later) w n m free is fits = (
  free_may event w n m ((both_hold (is_free event) (are_free later) free).0) is (omega (arith, fits)),
  refreshes_may later (turn_of w event).world (begins event + n) m ((both_hold (is_free event) (are_free later) free).1)
      (turn_in w n m is event) (omega (arith, fits)),
)

pub may_join : (before : List Event) (w : World) (after : List Event) → MayTurns w before
    → MayTurns (world_after w before) after → MayTurns w (before ++ after)
may_join [] w after one other = other
may_join (event ∷ before) w after one other = (one.0, may_join before (turn_of w event).world after one.1 other)
