-- Each turn of a guest is an event on what is shared.
use Rattle.std.proofs.Common.{◌≡◌, ℕ, ◌+◌, ◌<◌, ◌&&◌, ◌||◌, cond, Bool, true, false, length, slice_get, slice_set, is_some, Option, Some, None, refl, sym, ap, subst, ◌∙◌, arith}
use Rattle.std.proofs.lemmas.Option.{slice_get_within}
use Rattle.cfi_word.specs.Table.{Place, IsPlace}
use Rattle.cfi_word.specs.Table as places
use Rattle.cfi_model.specs.declared.act.Wait.{Wait}
use Rattle.cfi_model.specs.declared.act.Wait.TheVariants as waits
use Rattle.cfi_model.specs.declared.quiet.Point.{Point}
use Rattle.cfi_model.specs.declared.quiet.Point.TheVariants.{Outside, Asking, Leaving, Found}
use Rattle.cfi_model.specs.declared.quiet.Quiet.TheVariants.{Unregistered, Parked, Published}
use Rattle.cfi_model.specs.Phases.{phase_of}
use Rattle.cfi_model.specs.Quiet.{quiet_word_of}
use Rattle.cfi_model.specs.Raw.{Raw}
use Rattle.cfi_model.specs.Service.{Reply}
use Rattle.cfi_model.specs.SharedEvents.{Past, SharedEvent, AreSame, Makes, MakesPark, MakesPublish, IsSet, past_passed}
use Rattle.cfi_model.specs.SharedEvents as shared
use Rattle.cfi_model.specs.Words.{Tables}
use Rattle.cfi_model.specs.World.{World, point_of, quiet_of, shared_word}
use Rattle.cfi_world.specs.Seats.{is_asking, seat_after, seat_at, seat_by, seat_of, serves, with_seat}
use Rattle.cfi_world.specs.SharedTurns.{MakesIf, guest_event, release_event, point_event, shared_in, wait_event}
use Rattle.cfi_world.specs.Turns.{answer_turn, answered, did, guest_turn, is_registered, nothing, release_turn, seated}
use Rattle.cfi_world.specs.Updates.{is_idle}
use Rattle.cfi_world.specs.Worlds.{FitsPoint, IsWorld}
use Rattle.cfi_world.proofs.ChoiceLemmas.{asks_it, both_hold, not_some, set_again}
use Rattle.cfi_world.proofs.ParkLemmas.{has_published, is_parked}
use Rattle.cfi_world.proofs.SettledLemmas.{force_low}
use Rattle.cfi_world.proofs.SharedWords.{quiet_set, same_by, some_word}

module _ (w : World) (is : IsWorld w) where
  abbrev t : Tables
  t = w.tables

  stays : AreSame (shared_in w) (shared_in w)
  stays = same_by w w refl refl

  module _ (guest : ℕ) (r : Raw) (here : slice_get w.guests guest ≡ Some r) where
    inside : guest < length w.guests
    inside = slice_get_within w.guests guest r here

    -- a seat with the QUIET word that it had
    same_seat : slice_set w.quiets guest (quiet_of w guest) ≡ w.quiets
    same_seat = set_again w.quiets guest Unregistered

    -- one that has published, and is in no service, parks
    parks : (number : ℕ) → r.base.stop ≡ None → point_of w guest ≡ Outside
        → MakesPark guest (shared_in w) (shared_in (with_seat w guest (serves number (seat_of w guest r))))
    parks number going outside =
        let told = has_published t guest (seat_of w guest r) (quiet_of w guest) (is.running guest r here).quiet going
        outside in
        let word : shared_word w (places.Quiet guest) ≡ told.epoch + 1 = ap quiet_word_of told.is in
        let low = force_low t is.tables in
        record {
          registered = λ none. absurd (omega (arith, none, word));
          outside = λ parked. absurd (omega (arith, parked, word, told.since.published, low));
          set = quiet_set w (with_seat w guest (serves number (seat_of w guest r))) guest Parked is inside refl refl;
        }

    -- and publishes where it leaves the service
    publishes : (epoch : ℕ) → r.base.stop ≡ None → point_of w guest ≡ Found epoch
        → MakesPublish guest epoch (shared_in w) (shared_in (with_seat w guest
        (seat_at (Found epoch) t w.fuel (seat_of w guest r))))
    publishes epoch going found =
        let fits = subst (FitsPoint t r) found (is.seats guest r here).point in
        let parked = is_parked t guest (seat_of w guest r) (quiet_of w guest) (is.running guest r here).quiet going
        (λ outside. absurd (never_both (sym found ∙ outside))) in
        record {
          parked = ap quiet_word_of parked;
          most = fits.1;
          set = quiet_set w (with_seat w guest (seat_at (Found epoch) t w.fuel (seat_of w guest r))) guest
              (Published epoch) is inside refl refl;
        }
      where
        never_both : Found epoch ≡ Outside → ⊥
        never_both e = absurd (cc)

    waits_by : (wait : Option Wait) → r.base.stop ≡ None → point_of w guest ≡ Outside
        → MakesIf (wait_event w guest r wait) (shared_in w)
        (shared_in (with_seat w guest (seat_by wait t w.fuel (seat_of w guest r))))
    waits_by None going outside = record {
      is = refl;
      same = same_by w (with_seat w guest (seat_by None t w.fuel (seat_of w guest r))) refl same_seat;
    }
    waits_by (Some (waits.Tary at rd)) going outside = record {
      is = refl;
      same = same_by w (with_seat w guest (seat_by (Some (waits.Tary at rd)) t w.fuel (seat_of w guest r))) refl
          same_seat;
    }
    waits_by (Some (waits.Bary slot rd)) going outside = record {
      is = refl;
      same = same_by w (with_seat w guest (seat_by (Some (waits.Bary slot rd)) t w.fuel (seat_of w guest r))) refl
          same_seat;
    }
    waits_by (Some (waits.Service number)) going outside = parks number going outside

    points_by : (point : Point) → r.base.stop ≡ None → point_of w guest ≡ point
        → MakesIf (point_event w guest r point) (shared_in w)
        (shared_in (with_seat w guest (seat_at point t w.fuel (seat_of w guest r))))
    points_by Outside going at = waits_by r.waits going at
    points_by Asking going at =
        same_by w (with_seat w guest (seat_at Asking t w.fuel (seat_of w guest r))) refl same_seat
    points_by Leaving going at = record {
      is = refl;
      same = same_by w (with_seat w guest (seat_at Leaving t w.fuel (seat_of w guest r))) refl same_seat;
    }
    points_by (Found epoch) going at = publishes epoch going at

    -- one that has stopped, or waits for its answer, makes no event
    guest_by : (stops asks : Bool) → is_some r.base.stop ≡ stops → is_asking (point_of w guest) ≡ asks
        → MakesIf (cond stops None (point_event w guest r (point_of w guest))) (shared_in w)
        (shared_in (cond (stops || asks) (nothing w) (seated w guest (seat_after t w.fuel (seat_of w guest r)))).world)
    guest_by true asks stopped asked = stays
    guest_by false true stopped asked =
        subst (λ (p : Point). MakesIf (point_event w guest r p) (shared_in w) (shared_in w))
        (sym (asks_it (point_of w guest) asked)) stays
    guest_by false false stopped asked = points_by (point_of w guest) (not_some r.base.stop stopped) refl

    release_by : (may : Bool)
        → is_some r.base.stop && (is_registered (quiet_of w guest) && is_idle (phase_of t)) ≡ may
        → MakesIf (cond may (Some (shared.Leave guest)) None) (shared_in w)
        (shared_in (cond may (did (record w { quiets = slice_set w.quiets guest Unregistered })) (nothing w)).world)
    release_by false e = stays
    release_by true e =
        let both = both_hold (is_registered (quiet_of w guest)) (is_idle (phase_of t))
        (both_hold (is_some r.base.stop) _ e).1 in
        record {
          registered = some_word (quiet_of w guest) both.0;
          set = quiet_set w (record w { quiets = slice_set w.quiets guest Unregistered }) guest Unregistered is inside
              refl refl;
        }

  pub guest_makes : (guest : ℕ) (o : Option Raw) → slice_get w.guests guest ≡ o
      → MakesIf (guest_event w guest o) (shared_in w) (shared_in (guest_turn w guest o).world)
  guest_makes guest None here = stays
  guest_makes guest (Some r) here =
      guest_by guest r here (is_some r.base.stop) (is_asking (point_of w guest)) refl refl

  pub release_makes : (guest : ℕ) (o : Option Raw) → slice_get w.guests guest ≡ o
      → MakesIf (release_event w guest o) (shared_in w) (shared_in (release_turn w guest o).world)
  release_makes guest None here = stays
  release_makes guest (Some r) here =
      release_by guest r here
      (is_some r.base.stop && (is_registered (quiet_of w guest) && is_idle (phase_of t))) refl

  pub answer_makes : (guest : ℕ) (reply : Reply) (o : Option Raw)
      → AreSame (shared_in w) (shared_in (answer_turn w guest reply o).world)
  answer_makes guest reply None = stays
  answer_makes guest reply (Some r) = by (is_asking (point_of w guest))
    where
      by : (asks : Bool)
          → AreSame (shared_in w) (shared_in (cond asks (did (answered w guest reply r)) (nothing w)).world)
      by true = same_by w (answered w guest reply r) refl refl
      by false = stays
