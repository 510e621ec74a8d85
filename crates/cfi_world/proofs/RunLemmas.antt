-- A guest over a run of events: the steps that it has made, each check under the policy in force in its window.
use Rattle.std.proofs.Common.{◌≡◌, ℕ, zero, suc, ◌+◌, List, [], ◌∷◌, slice_get, add-one, Option, Some, None, ◌⊎◌, inl, inr, refl, sym, ap, ◌∙◌, subst, arith}
use Rattle.cfi_model.specs.History.{History}
use Rattle.cfi_model.specs.InForce.{history_of, code_in_force}
use Rattle.cfi_model.specs.Running.{IsGuest}
use Rattle.cfi_model.specs.State.{State, register, displaced}
use Rattle.cfi_model.specs.World.{World, opened_world}
use Rattle.cfi_world.specs.Laws.{IsRefined, IsStepped, answer_in}
use Rattle.cfi_world.specs.Moments.{LeavesTry}
use Rattle.cfi_world.specs.Steps.{Before, HasMade, HasRun, RunsAreSteps}
use Rattle.cfi_world.specs.Turns.{turn_of}
use Rattle.cfi_world.specs.declared.event.Event.{Event}
use Rattle.cfi_world.proofs.MomentLemmas.{past_world}
use Rattle.cfi_world.proofs.OpeningLemmas.{opened_guest, opened_is}
use Rattle.cfi_world.proofs.TraceLemmas.{HoldsTry, found_none}
use Rattle.cfi_world.proofs.GuestLemmas.{guest_ready}
use Rattle.cfi_world.proofs.NextLemmas.{ended_traced, refined, same_traced, shows_next, step_at, there_next}
use Rattle.cfi_world.proofs.TakenLemmas.{Here}
use Rattle.cfi_world.proofs.TracedLemmas as traced
use Rattle.cfi_world.proofs.TracedLemmas.{Over}

module _ (o : Over) where
  abbrev at : (moment : ℕ) → World
  at moment = traced.at o moment

  abbrev h : (moment : ℕ) → History
  h moment = traced.h o moment

  abbrev code : (moment : ℕ) → List ℕ
  code moment = traced.code o moment

  made_later : (start : State) (steps : List Before) (n retries : ℕ) (s : State)
      → HasMade o.w o.run o.guest start steps n retries s → HasMade o.w o.run o.guest start steps (n + 1) retries s
  made_later start [] n retries s made = made
  made_later start (from ∷ earlier) n retries s made = (let past = made.0 in (omega (arith, past), made.1, made.2))

  -- a guest has run so far, and what its present try has found is known
  pub record Goes (start : State) (n : ℕ) : Type 0 where
    pub has : HasRun o.w o.run o.guest start n
    pub traced : traced.Traced o n has.state has.now

  module _ (start : State) where
    module _ (n : ℕ) (goes : Goes start n) (event : Event) (comes : slice_get o.run n ≡ Some event) where
      abbrev has : HasRun o.w o.run o.guest start n
      has = goes.has

      abbrev here : Here o n
      here = record {
        r = has.now;
        there = has.there;
        retries = has.retries;
        s = has.state;
        shows = has.shows;
        traced = goes.traced;
        event = event;
        comes = comes;
      }

      abbrev then :
          IsRefined (at n) (turn_of (at n) event).world (answer_in event) o.guest has.now has.retries has.state
      then = refined o n here

      by_moves : ((then.more ≡ has.retries) × (then.after ≡ has.state))
          ⊎ IsStepped (h n) (code n) (answer_in event) has.retries has.state has.now then.now then.more then.after
          → Goes start (n + 1)
      by_moves (inl same) = record {
        has = record {
          now = then.now;
          there = there_next o n here;
          retries = has.retries;
          state = has.state;
          shows = subst (λ k. IsGuest (h (n + 1)) (code (n + 1)) k has.state then.now) same.0
              (subst (λ (x : State). IsGuest (h (n + 1)) (code (n + 1)) then.more x then.now) same.1
              (shows_next o n here));
          steps = has.steps;
          made = made_later start has.steps n has.retries has.state has.made;
        };
        traced = same_traced o n here same.1;
      }
      by_moves (inr stepped) = record {
        has = record {
          now = then.now;
          there = there_next o n here;
          retries = then.more;
          state = then.after;
          shows = shows_next o n here;
          steps = record { moment = n; state = has.state; retries = has.retries } ∷ has.steps;
          made = (
            omega arith,
            step_at o n here stepped,
            has.made,
          );
        };
        traced = ended_traced o n here stepped;
      }

      next_goes : Goes start (n + 1)
      next_goes = by_moves then.moves

    -- a moment past the end is the end
    past_goes : (n : ℕ) → Goes start n → slice_get o.run n ≡ None → Goes start (n + 1)
    past_goes n goes none =
        let has = goes.has in
        let same = past_world o.w o.run n none in
        let there = ap (λ v. slice_get v.guests o.guest) same ∙ has.there in
        let shows = subst (λ (v : World). IsGuest (history_of v.tables) (code_in_force v.tables) has.retries has.state
        has.now) (sym same) has.shows in
        let leaves : LeavesTry o.w o.run o.guest n = inl (ap (λ v. slice_get v.guests o.guest) same) in
        record {
          has = record {
            now = has.now;
            there = there;
            retries = has.retries;
            state = has.state;
            shows = shows;
            steps = has.steps;
            made = made_later start has.steps n has.retries has.state has.made;
          };
          traced = traced.traced_later o n has.now has.state
              (guest_ready (h n) (code n) has.retries has.state has.now has.shows)
              (traced.shown_going o n has.retries has.state has.now has.shows) leaves goes.traced;
        }

    goes_by : (n : ℕ) (next : Option Event) → slice_get o.run n ≡ next → Goes start n → Goes start (n + 1)
    goes_by n None none goes = past_goes n goes none
    goes_by n (Some event) comes goes = next_goes n goes event comes

    pub goes_at : (n : ℕ) → Goes start 0 → Goes start n
    goes_at zero first = first
    goes_at (suc n) first =
        subst (Goes start) (add-one n) (goes_by n (slice_get o.run n) refl (goes_at n first))

-- from the opening on
pub runs_are_steps : RunsAreSteps
runs_are_steps code_words versions first image guests room fuel size can room_fits fuel_fits run may guest r here moment
    within =
    let w : World = opened_world code_words versions first image guests room fuel in
    let is = opened_is code_words versions first image guests room fuel size can room_fits fuel_fits in
    let o : Over = record { w = w; is = is; run = run; may = may; guest = guest } in
    let start : Goes o r.base 0 = record {
      has = record {
        now = r;
        there = here;
        retries = 0;
        state = r.base;
        shows = inl (opened_guest code_words versions first image guests room fuel size can room_fits fuel_fits guest r
            here);
        steps = [];
        made = (refl, refl);
      };
      traced = λ going link rs1 imm slot stands.
          subst (λ f. HoldsTry w run guest f 0 slot (displaced (register r.base rs1) imm) r.bary r.tary)
          (sym (found_none r.base r refl)) tt;
    } in
    (goes_at o r.base moment start).has
