-- Every event refines what a guest shows.
use Rattle.std.proofs.Common.{◌≡◌, ℕ, ◌||◌, cond, Bool, true, false, length-set, slice_get, slice_set, is_some, Option, Some, None, refl, sym, ◌∙◌, ap, subst, arith, inl, inr}
use Rattle.std.proofs.lemmas.Bool.{cases_eq}
use Rattle.std.proofs.lemmas.List.{get_or-set_same}
use Rattle.std.proofs.lemmas.Option.{slice_get_within, slice_get-get_or}
use Rattle.cfi_model.specs.InForce.{history_of, code_in_force}
use Rattle.cfi_model.specs.Raw.{Raw}
use Rattle.cfi_model.specs.Run.{serve_of}
use Rattle.cfi_model.specs.Running.{IsGuest}
use Rattle.cfi_model.specs.Service.{Reply}
use Rattle.cfi_model.specs.State.{State}
use Rattle.cfi_model.specs.World.{World, point_of}
use Rattle.cfi_world.specs.Laws.{answer_in, IsRefined, IsAnothers}
use Rattle.cfi_world.specs.Premises.{MayAnswer, MayTurn}
use Rattle.cfi_world.specs.Seats.{Seat, seat_of, with_seat, seat_after, is_asking}
use Rattle.cfi_world.specs.Turns.{Turn, did, nothing, seated, guest_turn, answered, answer_turn, reply_in, turn_of}
use Rattle.cfi_world.specs.Worlds.{IsWorld}
use Rattle.cfi_world.specs.declared.event.Event.{Event}
use Rattle.cfi_world.specs.declared.event.Event.TheVariants as events
use Rattle.cfi_world.proofs.LaterLemmas.{guest_later}
use Rattle.cfi_world.proofs.SeatLemmas.{AreSeated}
use Rattle.cfi_world.proofs.ServiceLemmas as service
use Rattle.cfi_world.proofs.WorldLemmas.{turn_kept}
use Rattle.cfi_world.proofs.SeatedLemmas.{seated_in}
use Rattle.cfi_world.proofs.ChoiceLemmas.{neither, not_some, asks_it}
use Rattle.cfi_world.proofs.ForceLemmas.{turn_on}
use Rattle.cfi_world.proofs.OthersLemmas.{others_stay}

module _ (w : World) (is : IsWorld w) (guest : ℕ) (r : Raw) (here : slice_get w.guests guest ≡ Some r) (retries : ℕ)
    (s : State) (runs : IsGuest (history_of w.tables) (code_in_force w.tables) retries s r) where
  -- a guest that has no event
  rests_on : (event : Event) → MayTurn w event → IsAnothers event guest
      → IsRefined w (turn_of w event).world (answer_in event) guest r retries s
  rests_on event may apart = record {
    now = r;
    there = others_stay w event guest apart ∙ here;
    more = retries;
    after = s;
    runs = guest_later w.tables (turn_of w event).world.tables is.tables (turn_kept w is event may).tables
        (turn_on w is event) retries s r runs;
    moves = inl (refl, refl);
  }

  -- its seat, with what it shows
  abbrev shown_seat : AreSeated w.tables is.tables w.fuel guest (seat_of w guest r)
  shown_seat =
      let both = seated_in w is guest r here in
      record {
        seat = both.seat;
        running = record {
          retries = retries;
          shown = s;
          runs = runs;
          spent = both.running.spent;
          quiet = both.running.quiet;
        };
      }

  set_here : (v : Raw) → slice_get (slice_set w.guests guest v) guest ≡ Some v
  set_here v =
      let inside = slice_get_within w.guests guest r here in
      slice_get-get_or (slice_set w.guests guest v) guest v (omega (arith, inside, length-set w.guests guest v))
      ∙ ap Some (get_or-set_same w.guests guest v v inside)

  stays : (given : Option Reply) → IsRefined w w given guest r retries s
  stays given = record { now = r; there = here; more = retries; after = s; runs = runs; moves = inl (refl, refl) }

  -- an event of its own
  goes_by : (still : Bool) → is_some r.base.stop || is_asking (point_of w guest) ≡ still
      → IsRefined w
      (cond still w (with_seat w guest (seat_after w.tables w.fuel (seat_of w guest r)))) None guest r retries s
  goes_by true e = stays None
  goes_by false e =
      let going = not_some r.base.stop (neither (is_some r.base.stop) (is_asking (point_of w guest)) e).0 in
      let new : Seat = seat_after w.tables w.fuel (seat_of w guest r) in
      let gone = service.seat_goes w.tables is.tables w.fuel guest (seat_of w guest r) shown_seat going in
      record {
        now = new.guest;
        there = set_here new.guest;
        more = gone.seated.running.retries;
        after = gone.seated.running.shown;
        runs = gone.seated.running.runs;
        moves = gone.moves;
      }

  answers_by : (reply : Reply) → MayAnswer w reply → (asking : Bool) → is_asking (point_of w guest) ≡ asking
      → IsRefined w (cond asking (answered w guest reply r) w) (Some reply) guest r retries s
  answers_by reply may false e = stays (Some reply)
  answers_by reply may true e =
      let new : Raw = serve_of r reply in
      let gone = service.answered w.tables is.tables w.fuel guest (seat_of w guest r) shown_seat
      (asks_it (point_of w guest) e) reply may.policy may.few may.inside in
      record {
        now = new;
        there = set_here new;
        more = gone.seated.running.retries;
        after = gone.seated.running.shown;
        runs = gone.seated.running.runs;
        moves = gone.moves;
      }

  world_by : (given : Option Reply) (still : Bool) (x y : Turn)
      → IsRefined w (cond still x.world y.world) given guest r retries s
      → IsRefined w (cond still x y).world given guest r retries s
  world_by given true x y refined = refined
  world_by given false x y refined = refined

  own_turn : IsRefined w (guest_turn w guest (Some r)).world None guest r retries s
  own_turn =
      let still : Bool = is_some r.base.stop || is_asking (point_of w guest) in
      world_by None still (nothing w) (seated w guest (seat_after w.tables w.fuel (seat_of w guest r))) (goes_by still refl)

  own_answer : (reply : Reply) → MayAnswer w reply
      → IsRefined w (answer_turn w guest reply (Some r)).world (Some reply) guest r retries s
  own_answer reply may =
      let asking : Bool = is_asking (point_of w guest) in
      world_by (Some reply) asking (did (answered w guest reply r)) (nothing w) (answers_by reply may asking refl)

  pub refines : (event : Event) → MayTurn w event
      → IsRefined w (turn_of w event).world (answer_in event) guest r retries s
  refines (events.Guest other) may = elim (cases_eq other guest) [
    | inl same ↦
        subst (λ g. IsRefined w (guest_turn w g (slice_get w.guests g)).world None guest r retries s) (sym same)
        (subst (λ o. IsRefined w (guest_turn w guest o).world None guest r retries s) (sym here) own_turn)
    | inr apart ↦ rests_on (events.Guest other) may apart
  ]
  refines (events.Begin image) may = rests_on (events.Begin image) may tt
  refines events.Update may = rests_on events.Update may tt
  refines (events.Answer other answer) may = elim (cases_eq other guest) [
    | inl same ↦
        subst
        (λ g. IsRefined w (answer_turn w g (reply_in answer) (slice_get w.guests g)).world (Some (reply_in answer)) guest r
        retries s) (sym same)
        (subst (λ o. IsRefined w (answer_turn w guest (reply_in answer) o).world (Some (reply_in answer)) guest r retries s)
        (sym here)
        (own_answer (reply_in answer) may))
    | inr apart ↦ rests_on (events.Answer other answer) may apart
  ]
  refines (events.Release other) may = rests_on (events.Release other) may tt
