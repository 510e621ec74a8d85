-- When epochs are spent, and when a guest asks.
use Rattle.std.proofs.Common.{◌≡◌, ℕ, ◌+◌, ◌==◌, ◌||◌, ◌&&◌, nat_lt, cond, Bool, true, false, is_some, slice_get, Option, Some, None, refl, sym, ap, ◌∙◌}
use Rattle.std.proofs.lemmas.Bool.{eq-eqb, eqb-true, lt-ltb, ltb-true}
use Rattle.cfi_unit.specs.declared.log.Stop.{Stop}
use Rattle.cfi_word.specs.declared.lists.Image.{Image}
use Rattle.cfi_word.specs.declared.limits.TheConstants.{MAX_EPOCH, MAX_OPENS}
use Rattle.cfi_word.specs.declared.services.TheConstants.{OPEN}
use Rattle.cfi_model.specs.declared.act.Wait.{Wait}
use Rattle.cfi_model.specs.declared.act.Wait.TheVariants as waits
use Rattle.cfi_model.specs.declared.phase.Phase.{Phase}
use Rattle.cfi_model.specs.declared.phase.Phase.TheVariants as phases
use Rattle.cfi_model.specs.declared.quiet.Point.{Point}
use Rattle.cfi_model.specs.declared.quiet.Point.TheVariants.{Outside, Asking, Leaving, Found}
use Rattle.cfi_model.specs.declared.quiet.Quiet.TheVariants.{Parked}
use Rattle.cfi_model.specs.Log.{opens}
use Rattle.cfi_model.specs.Phases.{phase_of}
use Rattle.cfi_model.specs.Raw.{Raw}
use Rattle.cfi_model.specs.Run.{serve_of}
use Rattle.cfi_model.specs.Service.{argument, too_many}
use Rattle.cfi_model.specs.Words.{epoch_in_force}
use Rattle.cfi_model.specs.World.{World, point_of}
use Rattle.cfi_world.specs.Outcomes.{IsOpening}
use Rattle.cfi_world.specs.Seats.{Seat, is_asking, left_by, needs_answer, seat_after, seat_at, seat_by, seat_of}
use Rattle.cfi_world.specs.Turns.{did, guest_turn, nothing, seated, turn_of, turned_by}
use Rattle.cfi_world.specs.Updates.{begun, is_idle}
use Rattle.cfi_world.specs.declared.event.Event.TheVariants as events
use Rattle.cfi_world.specs.declared.event.Turned.TheVariants.{Did, Asks, EpochsSpent}
use Rattle.cfi_world.specs.Turns.{Turn}

stop_none : (stop : Option Stop) (b : Bool) → (is_some stop || b) ≡ false → stop ≡ None
stop_none None b test = refl
stop_none (Some stop) b test = absurd (cc)

-- the phase of a test that holds
pub idle_phase : (phase : Phase) → is_idle phase ≡ true → phase ≡ phases.Idle
idle_phase phases.Idle test = refl
idle_phase (phases.Testing guest) test = absurd (cc)
idle_phase (phases.Code next) test = absurd (cc)
idle_phase (phases.Tary next) test = absurd (cc)
idle_phase phases.Epoch test = absurd (cc)
idle_phase (phases.Bary next) test = absurd (cc)

-- what the begin of an update makes of a world
abbrev pub begin_by : World → Option Image → (a b : Bool) → Turn
begin_by w image a b =
    cond a (cond b (record { world = w; answer = EpochsSpent })
    (did (record w { tables = begun image w.tables; updates = w.updates + 1 }))) (nothing w)

pub epochs_spent : (w : World) (image : Option Image) → phase_of w.tables ≡ phases.Idle
    → epoch_in_force w.tables ≡ MAX_EPOCH
    → turn_of w (events.Begin image) ≡ record { world = w; answer = EpochsSpent }
epochs_spent w image idle last =
    ap (λ a. begin_by w image a (epoch_in_force w.tables == MAX_EPOCH)) (ap is_idle idle)
    ∙ ap (λ b. begin_by w image true b) (eq-eqb (epoch_in_force w.tables) MAX_EPOCH last)

spent_by : (w : World) (image : Option Image) (a b : Bool) → is_idle (phase_of w.tables) ≡ a
    → (epoch_in_force w.tables == MAX_EPOCH) ≡ b → (begin_by w image a b).answer ≡ EpochsSpent
    → (phase_of w.tables ≡ phases.Idle) × (epoch_in_force w.tables ≡ MAX_EPOCH)
spent_by w image true true idle last is =
    (idle_phase (phase_of w.tables) idle, eqb-true (epoch_in_force w.tables) MAX_EPOCH last)
spent_by w image true false idle last is = absurd (cc)
spent_by w image false b idle last is = absurd (cc)

pub epochs_only : (w : World) (image : Option Image) → (turn_of w (events.Begin image)).answer ≡ EpochsSpent
    → (phase_of w.tables ≡ phases.Idle) × (epoch_in_force w.tables ≡ MAX_EPOCH)
epochs_only w image is =
    spent_by w image (is_idle (phase_of w.tables)) (epoch_in_force w.tables == MAX_EPOCH) refl refl is

-- a guest asks
not_held : (stop : Option Stop) (point : Point) → stop ≡ None → point ≡ Outside
    → (is_some stop || is_asking point) ≡ false
not_held stop point going outside =
    ap (λ s. is_some s || is_asking point) going ∙ ap is_asking outside

module _ (w : World) (guest : ℕ) where
  -- the seat after the store of the parked number
  asks_by : (number : ℕ) → (is : IsOpening w guest number)
      → turned_by guest (seat_after w.tables w.fuel (seat_of w guest is.r)) ≡ Asks guest number
  asks_by number is =
      ap (λ p. turned_by guest (seat_at p w.tables w.fuel (seat_of w guest is.r))) is.outside
      ∙ ap (λ o. turned_by guest (seat_by o w.tables w.fuel (seat_of w guest is.r))) is.opens_is
      ∙ ap (λ b. turned_by guest (record {
        guest = cond b is.r (serve_of is.r too_many);
        point = cond b Asking (left_by (serve_of is.r too_many));
        quiet = Parked;
      })) (lt-ltb (opens is.r.base.log) MAX_OPENS is.few)
      ∙ ap (Asks guest) (sym is.asks)

  pub opening_asks : (number : ℕ) → IsOpening w guest number
      → (turn_of w (events.Guest guest)).answer ≡ Asks guest number
  opening_asks number is =
      ap (λ o. (guest_turn w guest o).answer) is.there
      ∙ ap (λ b. (cond b (nothing w) (seated w guest (seat_after w.tables w.fuel (seat_of w guest is.r)))).answer)
      (not_held is.r.base.stop (point_of w guest) is.going is.outside)
      ∙ asks_by number is

  module _ (r : Raw) (there : slice_get w.guests guest ≡ Some r) (other number : ℕ)
      (free : is_asking (point_of w guest) ≡ false) (going : r.base.stop ≡ None) where
    told : (b : Bool) (s : Seat) → is_asking s.point ≡ b → b ≡ false
        → cond b (Asks guest (argument s.guest.base)) Did ≡ Asks other number → ⊥
    told true s test none is = absurd (cc)
    told false s test none is = absurd (cc)

    open_is : (a b : Bool) → (a && b) ≡ true → (a ≡ true) × (b ≡ true)
    open_is true true test = (refl, refl)
    open_is true false test = absurd (cc)
    open_is false b test = absurd (cc)

    -- where its work is done, it asks for nothing
    left_not : (stops : Bool) (said : ℕ)
        → cond (is_asking (cond stops Outside Leaving)) (Asks guest said) Did ≡ Asks other number → ⊥
    left_not true said is = absurd (cc)
    left_not false said is = absurd (cc)

    parks_by : (service : ℕ) → r.waits ≡ Some (waits.Service service) → point_of w guest ≡ Outside
        → (b : Bool) → needs_answer service r ≡ b
        → cond (is_asking (cond b Asking (left_by (serve_of r too_many))))
        (Asks guest (argument (cond b r (serve_of r too_many)).base)) Did ≡ Asks other number
        → (guest ≡ other) × IsOpening w guest number
    parks_by service waiting outside true test is =
        let both = open_is (service == OPEN) (nat_lt (opens r.base.log) MAX_OPENS) test in
        let one : guest ≡ other = cc in
        let two : argument r.base ≡ number = cc in (
          one,
          record {
            r = r;
            there = there;
            going = going;
            opens_is = waiting ∙ ap (λ n. Some (waits.Service n)) (eqb-true service OPEN both.0);
            few = ltb-true (opens r.base.log) MAX_OPENS both.1;
            outside = outside;
            asks = sym two;
          },
        )
    parks_by service waiting outside false test is =
        absurd (left_not (is_some (serve_of r too_many).base.stop) (argument (serve_of r too_many).base) is)

    waits_by : (wait : Option Wait) → r.waits ≡ wait → point_of w guest ≡ Outside
        → turned_by guest (seat_by wait w.tables w.fuel (seat_of w guest r)) ≡ Asks other number
        → (guest ≡ other) × IsOpening w guest number
    waits_by None waiting outside is = absurd (told (is_asking (point_of w guest)) (seat_by None w.tables w.fuel
        (seat_of w guest r)) refl free is)
    waits_by (Some (waits.Tary at rd)) waiting outside is =
        absurd (told (is_asking (point_of w guest)) (seat_by (Some (waits.Tary at rd)) w.tables w.fuel
        (seat_of w guest r)) refl free is)
    waits_by (Some (waits.Bary slot rd)) waiting outside is =
        absurd (told (is_asking (point_of w guest)) (seat_by (Some (waits.Bary slot rd)) w.tables w.fuel
        (seat_of w guest r)) refl free is)
    waits_by (Some (waits.Service service)) waiting outside is =
        parks_by service waiting outside (needs_answer service r) refl is

    points_by : (point : Point) → point_of w guest ≡ point
        → turned_by guest (seat_at point w.tables w.fuel (seat_of w guest r)) ≡ Asks other number
        → (guest ≡ other) × IsOpening w guest number
    points_by Outside at is = waits_by r.waits refl at is
    points_by Asking at is = let e = sym free ∙ ap is_asking at in absurd (cc)
    points_by Leaving at is = absurd (cc)
    points_by (Found epoch) at is = absurd (cc)

  no_asking : (a b : Bool) → (a || b) ≡ false → b ≡ false
  no_asking true b test = absurd (cc)
  no_asking false b test = test

  held_asks : (r : Raw) → slice_get w.guests guest ≡ Some r → (other number : ℕ) (b : Bool)
      → (is_some r.base.stop || is_asking (point_of w guest)) ≡ b
      → (cond b (nothing w) (seated w guest
      (seat_after w.tables w.fuel (seat_of w guest r)))).answer ≡ Asks other number
      → (guest ≡ other) × IsOpening w guest number
  held_asks r there other number true test is = absurd (cc)
  held_asks r there other number false test is =
      points_by r there other number (no_asking (is_some r.base.stop) (is_asking (point_of w guest)) test)
      (stop_none r.base.stop (is_asking (point_of w guest)) test) (point_of w guest) refl is

  asks_only_by : (o : Option Raw) → slice_get w.guests guest ≡ o → (other number : ℕ)
      → (guest_turn w guest o).answer ≡ Asks other number → (guest ≡ other) × IsOpening w guest number
  asks_only_by None there other number is = absurd (cc)
  asks_only_by (Some r) there other number is =
      held_asks r there other number (is_some r.base.stop || is_asking (point_of w guest)) refl is

  pub asks_only : (other number : ℕ) → (turn_of w (events.Guest guest)).answer ≡ Asks other number
      → (guest ≡ other) × IsOpening w guest number
  asks_only other number is = asks_only_by (slice_get w.guests guest) refl other number is
