-- When each answer comes.
use Rattle.std.proofs.Common.{◌≡◌, ◌≢◌, ℕ, ◌+◌, ◌⊎◌, ◌==◌, ◌||◌, ◌&&◌, cond, Bool, true, false, is_some, inl, inr, slice_get, slice_set, Option, Some, None, refl, sym, ap, ◌∙◌}
use Rattle.cfi_unit.specs.declared.log.Stop.{Stop}
use Rattle.cfi_word.specs.declared.lists.Image.{Image}
use Rattle.cfi_word.specs.declared.limits.TheConstants.{MAX_EPOCH}
use Rattle.cfi_model.specs.declared.phase.Phase.{Phase}
use Rattle.cfi_model.specs.declared.phase.Phase.TheVariants as phases
use Rattle.cfi_model.specs.declared.quiet.Point.{Point}
use Rattle.cfi_model.specs.declared.quiet.Point.TheVariants.{Outside, Asking, Leaving, Found}
use Rattle.cfi_model.specs.declared.quiet.Quiet.{Quiet}
use Rattle.cfi_model.specs.declared.quiet.Quiet.TheVariants.{Unregistered, Parked, Published}
use Rattle.cfi_model.specs.Phases.{phase_of}
use Rattle.cfi_model.specs.Quiet.{admits}
use Rattle.cfi_model.specs.Raw.{Raw}
use Rattle.cfi_model.specs.Service.{Reply}
use Rattle.cfi_model.specs.Words.{epoch_in_force, next_epoch}
use Rattle.cfi_model.specs.World.{World, point_of, quiet_of}
use Rattle.cfi_world.specs.Outcomes.{IsAbsent, IsNothing}
use Rattle.cfi_world.specs.Seats.{is_asking, seat_after, seat_of}
use Rattle.cfi_world.specs.Turns.{answer_turn, answered, did, guest_turn, is_registered, nothing, refused, release_turn, reply_in, seated, tested_turn, turn_of, update_turn}
use Rattle.cfi_world.specs.Updates.{begun, is_idle}
use Rattle.cfi_world.specs.declared.event.Event.{Event}
use Rattle.cfi_world.specs.declared.event.Event.TheVariants as events
use Rattle.cfi_world.specs.declared.event.Turned.TheVariants.{Did, Asks, EpochsSpent, Nothing}

-- tests and what they tell
stop_some : (stop : Option Stop) → stop ≢ None → is_some stop ≡ true
stop_some None some = absurd (some refl)
stop_some (Some stop) some = refl

stop_is : (stop : Option Stop) → is_some stop ≡ true → stop ≢ None
stop_is None test = absurd (cc)
stop_is (Some stop) test = λ e. absurd (cc)

stop_none : (stop : Option Stop) → is_some stop ≡ false → stop ≡ None
stop_none None test = refl
stop_none (Some stop) test = absurd (cc)

asking_is : (point : Point) → is_asking point ≡ true → point ≡ Asking
asking_is Outside test = absurd (cc)
asking_is Asking test = refl
asking_is Leaving test = absurd (cc)
asking_is (Found epoch) test = absurd (cc)

asking_not : (point : Point) → is_asking point ≡ false → point ≢ Asking
asking_not Outside test = λ e. absurd (cc)
asking_not Asking test = absurd (cc)
asking_not Leaving test = λ e. absurd (cc)
asking_not (Found epoch) test = λ e. absurd (cc)

not_asking : (point : Point) → point ≢ Asking → is_asking point ≡ false
not_asking Outside other = refl
not_asking Asking other = absurd (other refl)
not_asking Leaving other = refl
not_asking (Found epoch) other = refl

idle_not : (phase : Phase) → phase ≢ phases.Idle → is_idle phase ≡ false
idle_not phases.Idle other = absurd (other refl)
idle_not (phases.Testing guest) other = refl
idle_not (phases.Code next) other = refl
idle_not (phases.Tary next) other = refl
idle_not phases.Epoch other = refl
idle_not (phases.Bary next) other = refl

not_idle : (phase : Phase) → is_idle phase ≡ false → phase ≢ phases.Idle
not_idle phase test = λ e. (let x = sym test ∙ ap is_idle e in absurd (cc))

or_right : (a b : Bool) → b ≡ true → (a || b) ≡ true
or_right true b e = refl
or_right false b e = e

or_left : (a b : Bool) → a ≡ true → (a || b) ≡ true
or_left true b e = refl
or_left false b e = absurd (cc)

-- a guest's event
asked_or_did : (b : Bool) (guest number : ℕ) → cond b (Asks guest number) Did ≢ Nothing
asked_or_did true guest number = λ e. absurd (cc)
asked_or_did false guest number = λ e. absurd (cc)

guest_held : (w : World) (guest : ℕ) (o : Option Raw) → point_of w guest ≡ Asking → guest_turn w guest o ≡ nothing w
guest_held w guest None asks = refl
guest_held w guest (Some r) asks =
    ap (λ b. cond b (nothing w) (seated w guest (seat_after w.tables w.fuel (seat_of w guest r))))
    (or_right (is_some r.base.stop) (is_asking (point_of w guest)) (ap is_asking asks))

guest_same : (w : World) (guest : ℕ) → IsNothing w (events.Guest guest) → turn_of w (events.Guest guest) ≡ nothing w
guest_same w guest (inl absent) = ap (guest_turn w guest) absent
guest_same w guest (inr (inl stopped)) =
    ap (guest_turn w guest) stopped.1
    ∙ ap (λ b. cond b (nothing w) (seated w guest (seat_after w.tables w.fuel (seat_of w guest stopped.0))))
    (or_left (is_some stopped.0.base.stop) (is_asking (point_of w guest)) (stop_some stopped.0.base.stop stopped.2))
guest_same w guest (inr (inr asks)) = guest_held w guest (slice_get w.guests guest) asks

guest_by : (w : World) (guest : ℕ) (r : Raw) → slice_get w.guests guest ≡ Some r → (a b : Bool)
    → is_some r.base.stop ≡ a → is_asking (point_of w guest) ≡ b
    → (cond (a || b) (nothing w) (seated w guest (seat_after w.tables w.fuel (seat_of w guest r)))).answer ≡ Nothing
    → IsNothing w (events.Guest guest)
guest_by w guest r there true b stops asks is = inr (inl (r, there, stop_is r.base.stop stops))
guest_by w guest r there false true stops asks is = inr (inr (asking_is (point_of w guest) asks))
guest_by w guest r there false false stops asks is =
    absurd (asked_or_did (is_asking (seat_after w.tables w.fuel (seat_of w guest r)).point) guest _ is)

guest_only : (w : World) (guest : ℕ) (o : Option Raw) → slice_get w.guests guest ≡ o
    → (guest_turn w guest o).answer ≡ Nothing → IsNothing w (events.Guest guest)
guest_only w guest None there is = inl there
guest_only w guest (Some r) there is =
    guest_by w guest r there (is_some r.base.stop) (is_asking (point_of w guest)) refl refl is

-- a Begin
begin_by : (w : World) (image : Option Image) (a b : Bool) → is_idle (phase_of w.tables) ≡ a
    → (cond a (cond b (record { world = w; answer = EpochsSpent }) (record {
      world = record w { tables = begun image w.tables; updates = w.updates + 1 };
      answer = Did;
    })) (nothing w)).answer ≡ Nothing
    → phase_of w.tables ≢ phases.Idle
begin_by w image true true idle is = absurd (cc)
begin_by w image true false idle is = absurd (cc)
begin_by w image false b idle is = not_idle (phase_of w.tables) idle

-- an Update
tested_by : (w : World) (guest : ℕ) (quiet : Quiet) (b : Bool)
    → admits w.tables.versions (next_epoch w.tables) quiet ≡ b
    → (tested_turn w guest quiet).answer ≢ Nothing
tested_by w guest Unregistered b test = λ is. absurd (cc)
tested_by w guest Parked b test = λ is. absurd (cc)
tested_by w guest (Published epoch) true test =
    λ is. (let x = sym (ap (λ c. (cond c (tested_turn w guest Unregistered) (refused w guest (Published epoch))).answer)
    test) ∙ is in absurd (cc))
tested_by w guest (Published epoch) false test =
    λ is. (let x = sym (ap (λ c. (cond c (tested_turn w guest Unregistered) (refused w guest (Published epoch))).answer)
    test) ∙ is in absurd (cc))

update_only : (w : World) (phase : Phase) → (update_turn w phase).answer ≡ Nothing → phase ≡ phases.Idle
update_only w phases.Idle is = refl
update_only w (phases.Testing guest) is = absurd (tested_by w guest (quiet_of w guest) _ refl is)
update_only w (phases.Code next) is = absurd (cc)
update_only w (phases.Tary next) is = absurd (cc)
update_only w phases.Epoch is = absurd (cc)
update_only w (phases.Bary next) is = absurd (cc)

-- an answer
answer_other : (w : World) (guest : ℕ) (reply : Reply) (o : Option Raw) → point_of w guest ≢ Asking
    → answer_turn w guest reply o ≡ nothing w
answer_other w guest reply None other = refl
answer_other w guest reply (Some r) other =
    ap (λ b. cond b (did (answered w guest reply r)) (nothing w))
    (not_asking (point_of w guest) other)

answer_by : (w : World) (guest : ℕ) (reply : Reply) (r : Raw) (b : Bool) → is_asking (point_of w guest) ≡ b
    → (cond b (did (answered w guest reply r)) (nothing w)).answer ≡ Nothing
    → point_of w guest ≢ Asking
answer_by w guest reply r true test is = absurd (cc)
answer_by w guest reply r false test is = asking_not (point_of w guest) test

answer_only : (w : World) (guest : ℕ) (reply : Reply) (o : Option Raw) → slice_get w.guests guest ≡ o
    → (answer_turn w guest reply o).answer ≡ Nothing → IsAbsent w guest ⊎ (point_of w guest ≢ Asking)
answer_only w guest reply None there is = inl there
answer_only w guest reply (Some r) there is =
    inr (answer_by w guest reply r (is_asking (point_of w guest)) refl is)

-- a release
release_false : (w : World) (guest : ℕ) (r : Raw)
    → (is_some r.base.stop && (is_registered (quiet_of w guest) && is_idle (phase_of w.tables))) ≡ false
    → release_turn w guest (Some r) ≡ nothing w
release_false w guest r test =
    ap (λ b. cond b (did (record w { quiets = slice_set w.quiets guest Unregistered })) (nothing w)) test

and_false : (a b c : Bool) → (a ≡ false) ⊎ ((b ≡ false) ⊎ (c ≡ false)) → (a && (b && c)) ≡ false
and_false false b c e = refl
and_false true false c e = refl
and_false true true false e = refl
and_false true true true (inl e) = absurd (cc)
and_false true true true (inr (inl e)) = absurd (cc)
and_false true true true (inr (inr e)) = absurd (cc)

release_by : (w : World) (guest : ℕ) (o : Option Raw) → slice_get w.guests guest ≡ o
    → ((quiet_of w guest ≡ Unregistered) ⊎ (phase_of w.tables ≢ phases.Idle)) → release_turn w guest o ≡ nothing w
release_by w guest None there e = refl
release_by w guest (Some r) there (inl e) =
    release_false w guest r (and_false (is_some r.base.stop) _ _ (inr (inl (ap is_registered e))))
release_by w guest (Some r) there (inr e) =
    release_false w guest r (and_false (is_some r.base.stop) _ _ (inr (inr (idle_not (phase_of w.tables) e))))

going_false : (stop : Option Stop) → stop ≡ None → is_some stop ≡ false
going_false stop e = ap is_some e

release_same : (w : World) (guest : ℕ) → IsNothing w (events.Release guest)
    → turn_of w (events.Release guest) ≡ nothing w
release_same w guest (inl absent) = ap (release_turn w guest) absent
release_same w guest (inr (inl going)) =
    ap (release_turn w guest) going.1
    ∙ release_false w guest going.0
    (and_false (is_some going.0.base.stop) (is_registered (quiet_of w guest)) (is_idle (phase_of w.tables))
    (inl (going_false going.0.base.stop going.2)))
release_same w guest (inr (inr e)) = release_by w guest (slice_get w.guests guest) refl e

unregistered : (quiet : Quiet) → is_registered quiet ≡ false → quiet ≡ Unregistered
unregistered Unregistered e = refl
unregistered Parked e = absurd (cc)
unregistered (Published epoch) e = absurd (cc)

released_by : (w : World) (guest : ℕ) (r : Raw) → slice_get w.guests guest ≡ Some r → (a b c : Bool)
    → is_some r.base.stop ≡ a → is_registered (quiet_of w guest) ≡ b → is_idle (phase_of w.tables) ≡ c
    → (cond (a && (b && c)) (did (record w { quiets = slice_set w.quiets guest Unregistered }))
    (nothing w)).answer ≡ Nothing
    → IsNothing w (events.Release guest)
released_by w guest r there false b c x y z is = inr (inl (r, there, stop_none r.base.stop x))
released_by w guest r there true false c x y z is = inr (inr (inl (unregistered (quiet_of w guest) y)))
released_by w guest r there true true false x y z is = inr (inr (inr (not_idle (phase_of w.tables) z)))
released_by w guest r there true true true x y z is = absurd (cc)

release_only : (w : World) (guest : ℕ) (o : Option Raw) → slice_get w.guests guest ≡ o
    → (release_turn w guest o).answer ≡ Nothing → IsNothing w (events.Release guest)
release_only w guest None there is = inl there
release_only w guest (Some r) there is =
    released_by w guest r there (is_some r.base.stop) (is_registered (quiet_of w guest)) (is_idle (phase_of w.tables))
    refl refl refl is

pub nothing_same : (w : World) (event : Event) → IsNothing w event → turn_of w event ≡ nothing w
nothing_same w (events.Guest guest) is = guest_same w guest is
nothing_same w (events.Begin image) is =
    ap (λ b. cond b (cond (epoch_in_force w.tables == MAX_EPOCH) (record { world = w; answer = EpochsSpent }) (record {
      world = record w { tables = begun image w.tables; updates = w.updates + 1 };
      answer = Did;
    })) (nothing w)) (idle_not (phase_of w.tables) is)
nothing_same w events.Update is = ap (update_turn w) is
nothing_same w (events.Answer guest answer) (inl absent) = ap (answer_turn w guest (reply_in answer)) absent
nothing_same w (events.Answer guest answer) (inr other) =
    answer_other w guest (reply_in answer) (slice_get w.guests guest) other
nothing_same w (events.Release guest) is = release_same w guest is

pub nothing_only : (w : World) (event : Event) → (turn_of w event).answer ≡ Nothing → IsNothing w event
nothing_only w (events.Guest guest) is = guest_only w guest (slice_get w.guests guest) refl is
nothing_only w (events.Begin image) is =
    begin_by w image (is_idle (phase_of w.tables)) (epoch_in_force w.tables == MAX_EPOCH) refl is
nothing_only w events.Update is = update_only w (phase_of w.tables) is
nothing_only w (events.Answer guest answer) is =
    answer_only w guest (reply_in answer) (slice_get w.guests guest) refl is
nothing_only w (events.Release guest) is = release_only w guest (slice_get w.guests guest) refl is
