-- Which guest refuses an update.
use Rattle.std.proofs.Common.{◌≡◌, ◌≢◌, ℕ, ◌+◌, ◌-◌, ◌<◌, ◌≤◌, ◌==◌, ◌||◌, ◌&&◌, nat_le, cond, Bool, true, false, is_some, slice_get, Option, Some, None, refl, sym, ap, subst, ◌∙◌, arith, inl, inr}
use Rattle.std.proofs.lemmas.Bool.Decides.{nat_tests}
use Rattle.cfi_word.specs.declared.limits.TheConstants.{MAX_EPOCH}
use Rattle.cfi_model.specs.declared.phase.Phase.{Phase}
use Rattle.cfi_model.specs.declared.phase.Phase.TheVariants as phases
use Rattle.cfi_model.specs.declared.quiet.Quiet.{Quiet}
use Rattle.cfi_model.specs.declared.quiet.Quiet.TheVariants.{Unregistered, Parked, Published}
use Rattle.cfi_model.specs.Phases.{phase_of, phase_by, phase_after}
use Rattle.cfi_model.specs.Quiet.{admits}
use Rattle.cfi_model.specs.Raw.{Raw}
use Rattle.cfi_model.specs.Service.{Reply}
use Rattle.cfi_model.specs.Tables.{MayBeAsked}
use Rattle.cfi_model.specs.Words.{epoch_in_force, next_epoch}
use Rattle.cfi_model.specs.World.{World, point_of, quiet_of}
use Rattle.cfi_model.specs.declared.history.Entry.{Entry}
use Rattle.cfi_word.specs.Table.{Epoch}
use Rattle.cfi_model.proofs.PhaseLemmas.{phase_row}
use Rattle.cfi_model.proofs.TableLemmas.{force_epoch}
use Rattle.cfi_world.specs.Outcomes.{IsRefusal}
use Rattle.cfi_world.specs.Seats.{Seat, is_asking, seat_after, seat_of}
use Rattle.cfi_world.specs.Turns.{answer_turn, answered, did, guest_turn, is_registered, nothing, passed_turn, refused, release_turn, reply_in, seated, tested_turn, turn_of, update_turn}
use Rattle.cfi_world.specs.Updates.{is_idle}
use Rattle.cfi_world.specs.Worlds.{IsWorld}
use Rattle.cfi_world.specs.declared.event.Event.{Event}
use Rattle.cfi_world.specs.declared.event.Event.TheVariants as events
use Rattle.cfi_world.specs.declared.event.Turned.TheVariants.{Did, Asks, VersionsSpent, EpochsSpent}
use Rattle.cfi_world.proofs.ChoiceLemmas.{row_none}
use Rattle.cfi_world.proofs.SettledLemmas.{number_cases}

late_test : (epoch most : ℕ) → most < epoch → nat_le epoch most ≡ false
late_test epoch most late = grind (arith, nat_tests)

test_late : (epoch most : ℕ) → nat_le epoch most ≡ false → most < epoch
test_late epoch most test = grind (arith, nat_tests)

pub refusal_spent : (w : World) (guest quiet : ℕ) → IsRefusal w guest quiet
    → (turn_of w events.Update).answer ≡ VersionsSpent guest quiet
refusal_spent w guest quiet is =
    ap (λ p. (update_turn w p).answer) is.tests
    ∙ ap (λ q. (tested_turn w guest q).answer) is.published
    ∙ ap (λ b. (cond b (passed_turn w) (refused w guest (Published quiet))).answer)
    (late_test (next_epoch w.tables) (quiet + w.tables.versions - 2) is.late)

-- which answers an event can have
not_spent : (b : Bool) (guest number one other : ℕ) → cond b (Asks guest number) Did ≢ VersionsSpent one other
not_spent true guest number one other = λ e. absurd (cc)
not_spent false guest number one other = λ e. absurd (cc)

held_not : (b : Bool) (w : World) (guest : ℕ) (s : Seat) (one other : ℕ)
    → (cond b (nothing w) (seated w guest s)).answer ≢ VersionsSpent one other
held_not true w guest s one other = λ e. absurd (cc)
held_not false w guest s one other = not_spent (is_asking s.point) guest _ one other

guest_not : (w : World) (guest : ℕ) (o : Option Raw) (one other : ℕ)
    → (guest_turn w guest o).answer ≢ VersionsSpent one other
guest_not w guest None one other = λ e. absurd (cc)
guest_not w guest (Some r) one other =
    held_not (is_some r.base.stop || is_asking (point_of w guest)) w guest
    (seat_after w.tables w.fuel (seat_of w guest r))
    one other

begin_not : (a b : Bool) (w v : World) (one other : ℕ)
    → (cond a (cond b (record { world = w; answer = EpochsSpent }) (did v))
    (nothing w)).answer ≢ VersionsSpent one other
begin_not true true w v one other = λ e. absurd (cc)
begin_not true false w v one other = λ e. absurd (cc)
begin_not false b w v one other = λ e. absurd (cc)

either_not : (b : Bool) (w v : World) (one other : ℕ) → (cond b (did v) (nothing w)).answer ≢ VersionsSpent one other
either_not true w v one other = λ e. absurd (cc)
either_not false w v one other = λ e. absurd (cc)

answer_not : (w : World) (guest : ℕ) (reply : Reply) (o : Option Raw) (one other : ℕ)
    → (answer_turn w guest reply o).answer ≢ VersionsSpent one other
answer_not w guest reply None one other = λ e. absurd (cc)
answer_not w guest reply (Some r) one other =
    either_not (is_asking (point_of w guest)) w (answered w guest reply r) one other

release_not : (w : World) (guest : ℕ) (o : Option Raw) (one other : ℕ)
    → (release_turn w guest o).answer ≢ VersionsSpent one other
release_not w guest None one other = λ e. absurd (cc)
release_not w guest (Some r) one other =
    either_not (is_some r.base.stop && (is_registered (quiet_of w guest) && is_idle (phase_of w.tables))) w _ one other

-- the test that was not passed
refused_by : (w : World) (guest one other : ℕ) (quiet : Quiet) (b : Bool)
    → admits w.tables.versions (next_epoch w.tables) quiet ≡ b
    → (cond b (passed_turn w) (refused w guest quiet)).answer ≡ VersionsSpent one other
    → (guest ≡ one) × (quiet ≡ Published other) × (other + w.tables.versions - 2 < next_epoch w.tables)
refused_by w guest one other Unregistered true test is = absurd (cc)
refused_by w guest one other Unregistered false test is = absurd (cc)
refused_by w guest one other Parked true test is = absurd (cc)
refused_by w guest one other Parked false test is = absurd (cc)
refused_by w guest one other (Published epoch) true test is = absurd (cc)
refused_by w guest one other (Published epoch) false test is =
    let same : guest ≡ one = cc in
    let told : epoch ≡ other = cc in (
      same,
      ap Published told,
      subst (λ q. q + w.tables.versions - 2 < next_epoch w.tables) told
          (test_late (next_epoch w.tables) (epoch + w.tables.versions - 2) test),
    )

update_refuses : (w : World) (phase : Phase) (one other : ℕ) → phase_of w.tables ≡ phase
    → (update_turn w phase).answer ≡ VersionsSpent one other → IsRefusal w one other
update_refuses w phases.Idle one other at is = absurd (cc)
update_refuses w (phases.Testing guest) one other at is =
    let e = refused_by w guest one other (quiet_of w guest)
    (admits w.tables.versions (next_epoch w.tables) (quiet_of w guest)) refl is in
    record {
      tests = at ∙ ap phases.Testing e.0;
      published = ap (quiet_of w) (sym e.0) ∙ e.1;
      late = e.2;
    }
update_refuses w (phases.Code next) one other at is = absurd (cc)
update_refuses w (phases.Tary next) one other at is = absurd (cc)
update_refuses w phases.Epoch one other at is = absurd (cc)
update_refuses w (phases.Bary next) one other at is = absurd (cc)

pub refusal_only : (w : World) (event : Event) (guest quiet : ℕ) → (turn_of w event).answer ≡ VersionsSpent guest quiet
    → (event ≡ events.Update) × IsRefusal w guest quiet
refusal_only w (events.Guest number) guest quiet is =
    absurd (guest_not w number (slice_get w.guests number) guest quiet is)
refusal_only w (events.Begin image) guest quiet is =
    absurd (begin_not (is_idle (phase_of w.tables)) (epoch_in_force w.tables == MAX_EPOCH) w _ guest quiet is)
refusal_only w events.Update guest quiet is = (refl, update_refuses w (phase_of w.tables) guest quiet refl is)
refusal_only w (events.Answer number answer) guest quiet is =
    absurd (answer_not w number (reply_in answer) (slice_get w.guests number) guest quiet is)
refusal_only w (events.Release number) guest quiet is =
    absurd (release_not w number (slice_get w.guests number) guest quiet is)

-- while it is tested
module _ (w : World) (is : IsWorld w) (guest quiet : ℕ) (refusal : IsRefusal w guest quiet) where
  asked_by : (asked : Option Entry) (tested c s : ℕ) → phase_by asked tested c s ≡ phases.Testing guest → asked ≢ None
  asked_by (Some entry) tested c s e = λ none. absurd (cc)
  asked_by None tested c s e = absurd (row_none c s (phase_after c s) guest (phase_row c s) e)

  asks : w.tables.asked ≢ None
  asks = asked_by w.tables.asked w.tables.tested w.tables.code_words w.tables.stored refusal.tests

  -- while the test is under way, the newest entry is in force
  force_by : (asked : Option Entry) → asked ≢ None → MayBeAsked w.tables asked
      → next_epoch w.tables ≡ epoch_in_force w.tables + 1
  force_by None some may = absurd (some refl)
  force_by (Some entry) some may =
      let force = force_epoch w.tables is.tables in
      elim (number_cases w.tables Epoch) [
        | inl new ↦ omega (arith, force, new.1, is.tables.some)
        | inr old ↦ absurd (omega (arith, old.0, may.idle))
      ]

  pub refusal_many : quiet + w.tables.versions ≤ epoch_in_force w.tables + 2
  refusal_many =
      let next = force_by w.tables.asked asks is.tables.asked_fits in omega (arith, refusal.late, next)
