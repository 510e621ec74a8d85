-- Every event keeps what holds of each guest.
use Rattle.std.proofs.lemmas.List.{append-nil}
use Rattle.std.proofs.Common.{◌≡◌, ℕ, ◌+◌, ◌||◌, ◌++◌, cond, Bool, true, false, List, [], ◌∷◌, slice_get, is_some, Option, Some, None, refl, sym, ◌∙◌, ap, subst, arith, inl, inr}
use Rattle.std.specs.List.{All}
use Rattle.cfi_world.specs.declared.event.Turned.TheVariants.{Did, Asks, VersionsSpent, EpochsSpent, Nothing}
use Rattle.cfi_world.specs.declared.event.Event.TheVariants as events
use Rattle.cfi_sim.specs.declared.aim.Aim.{Aim}
use Rattle.cfi_sim.specs.declared.aim.Aim.TheVariants.{Loading, Refreshing}
use Rattle.cfi_sim.specs.Stage.{Stage, with_journal_line, IsMade, dropped, after_event}
use Rattle.cfi_valid.proofs.GrowthLemmas.{same_later}
use Rattle.cfi_sim.proofs.guests.RunsLemmas.{runs_on}
use Rattle.cfi_sim.proofs.journal.MadeLemmas.{loaded_later}
use Rattle.cfi_world.proofs.ForceLemmas.{turn_on}
use Rattle.cfi_sim.specs.Agrees.{TablesAgree}
use Rattle.cfi_sim.proofs.guests.TurnLemmas.{some_same, asks_number, AllRun, turn_runs}
use Rattle.cfi_model.specs.Raw.{Raw}
use Rattle.cfi_model.specs.Words.{Tables}
use Rattle.cfi_valid.specs.Growth.{IsLater}
use Rattle.cfi_sim.specs.Events.{GuestTurns, IsGuestEvent, IsNoted, Begins}
use Rattle.cfi_model.specs.Service.{argument}
use Rattle.cfi_world.proofs.OthersLemmas.{others_stay}
use Rattle.cfi_aux.specs.declared.modules.Module.{Module}
use Rattle.cfi_model.specs.declared.phase.Phase.TheVariants as phases
use Rattle.cfi_world.specs.declared.event.Turned.{Turned}
use Rattle.cfi_model.specs.declared.phase.Phase.{Phase}
use Rattle.cfi_model.specs.InForce.{GoesOn}
use Rattle.cfi_plan.specs.declared.plan.Plan.{Plan}
use Rattle.cfi_model.specs.Phases.{phase_of}
use Rattle.cfi_model.specs.World.{World, point_of}
use Rattle.cfi_world.specs.declared.event.Event.{Event}
use Rattle.cfi_sim.proofs.journal.HappensLemmas.{turned_beside}
use Rattle.cfi_word.specs.declared.lists.Image.{Image}
use Rattle.cfi_world.specs.Worlds.{IsWorld}
use Rattle.cfi_world.specs.Seats.{Seat, seat_of, seat_after, is_asking}
use Rattle.cfi_sim.specs.Reach.{Happening, OfGuest, OfUpdate, OfLoad, OfRefresh, OfRelease, Happens}
use Rattle.cfi_world.specs.Turns.{nothing, seated, guest_turn, turn_of}
use Rattle.cfi_aux.specs.Sound.{IsSoundModule}
use Rattle.cfi_sim.proofs.guests.AnswerLemmas.{answer_runs}
use Rattle.cfi_plan.specs.declared.journal.JournalLine.{JournalLine}
use Rattle.cfi_valid.specs.Journal.{JournalState, IsClean, with_loaded}
use Rattle.cfi_sim.specs.Stands.{Holds}
use Rattle.cfi_model.specs.Tables.{IsTables}
use Rattle.cfi_sim.proofs.journal.SeatsLemmas.{set_one}

module _ (plan : Plan) (modules : List Module) (sound : All IsSoundModule modules) (opening : JournalState) where
  module _ (old : Stage) (holds : Holds plan modules opening old)
      (runs : AllRun plan modules sound opening old.state old.world) where
    abbrev w : World
    w = old.world

    abbrev t : Tables
    t = w.tables

    is : IsWorld w
    is = holds.agrees.world

    agrees : TablesAgree plan modules old.state old.aim t
    agrees = holds.agrees.tables

    -- ---- an event of a guest

    asked_as : (guest other number : ℕ) (o : Option Raw) → slice_get w.guests guest ≡ o
        → (guest_turn w guest o).answer ≡ Asks other number → (r : Raw)
        → slice_get (guest_turn w guest o).world.guests guest ≡ Some r → number ≡ argument r.base
    asked_as guest other number None here answer r there = absurd (cc)
    asked_as guest other number (Some first) here answer r there =
        by_still (is_some first.base.stop || is_asking (point_of w guest)) answer there
      where
        seat : Seat
        seat = seat_after t w.fuel (seat_of w guest first)

        by_still : (still : Bool) → (cond still (nothing w) (seated w guest seat)).answer ≡ Asks other number
            → slice_get (cond still (nothing w) (seated w guest seat)).world.guests guest ≡ Some r
            → number ≡ argument r.base
        by_still true answer there = absurd (cc)
        by_still false answer there =
            asks_number (is_asking seat.point) guest other number (argument seat.guest.base) answer
            ∙ ap (λ (x : Raw). argument x.base)
            (some_same seat.guest r (sym (set_one w.guests guest first seat.guest here) ∙ there))

    guest_runs_by : (guest : ℕ) (new : World) (answer : Turned)
        → (turn_of w (events.Guest guest)).answer ≡ answer
        → GuestTurns plan old.state (turn_of w (events.Guest guest)).world new guest answer
        → AllRun plan modules sound opening old.state new
    guest_runs_by guest new Did is_answer turns =
        subst (AllRun plan modules sound opening old.state) (sym turns)
        (turn_runs plan modules sound opening old holds runs guest)
    guest_runs_by guest new (Asks other number) is_answer turns =
        let beside = turned_beside plan modules sound opening old holds guest in
        let mid : World = (turn_of w (events.Guest guest)).world in
        let asks = asked_as guest other number (slice_get w.guests guest) refl is_answer turns.r turns.there in
        subst (AllRun plan modules sound opening old.state) (sym turns.is)
        (answer_runs plan modules sound opening old holds runs mid beside.world beside.tables
        (turn_runs plan modules sound opening old holds runs guest) guest number turns.r turns.there asks turns.found
        turns.is_found)
    guest_runs_by guest new (VersionsSpent other quiet) is_answer turns = absurd turns
    guest_runs_by guest new EpochsSpent is_answer turns = absurd turns
    guest_runs_by guest new Nothing is_answer turns = absurd turns

    guest_runs : (guest : ℕ) (new : Stage) → IsGuestEvent plan guest old new
        → AllRun plan modules sound opening new.state new.world
    guest_runs guest new event =
        subst (λ (s : Stage). AllRun plan modules sound opening s.state s.world) (sym event.is)
        (guest_runs_by guest event.world (turn_of w (events.Guest guest)).answer refl event.turns)

    -- ---- the other events

    -- the world is the one after an event that is none of a guest, and the journal has gone on
    pub record HasGoneOn (event : Event) (new : Stage) : Type 0 where
      pub world : new.world ≡ (turn_of w event).world
      pub stays : (number : ℕ) → slice_get (turn_of w event).world.guests number ≡ slice_get w.guests number
      pub later : IsLater old.state new.state

    others_run : (event : Event) (new : Stage) → IsTables new.world.tables → HasGoneOn event new
        → AllRun plan modules sound opening new.state new.world
    others_run event new then on number r there =
        let here = sym (on.stays number) ∙ ap (λ (v : World). slice_get v.guests number) (sym on.world) ∙ there in
        runs_on plan modules old.state new.state on.later t new.world.tables is.tables then
        (subst (λ (v : World). GoesOn t v.tables) (sym on.world) (turn_on w is event)) number r (runs number r here)

    same_on : (event : Event) (new s : Stage) → s.world ≡ (turn_of w event).world → s.state ≡ old.state → new ≡ s
        → ((number : ℕ) → slice_get (turn_of w event).world.guests number ≡ slice_get w.guests number)
        → HasGoneOn event new
    same_on event new s world state same stays = record {
      world = ap (λ (x : Stage). x.world) same ∙ world;
      stays = stays;
      later = subst (IsLater old.state) (sym (ap (λ (x : Stage). x.state) same ∙ state)) (same_later old.state);
    }

    load_later : (number : ℕ) (clean : IsClean plan modules old.state number) (new : JournalState)
        → new ≡ with_loaded number (old.state.epoch + 1) (old.state.policy + 1) clean.placed old.state
        → IsLater old.state new
    load_later number clean new same =
        subst (IsLater old.state) (sym same) (loaded_later number clean.placed old.state)

    refresh_later : (new : JournalState) → new ≡ record old.state { epoch = old.state.epoch + 1 }
        → IsLater old.state new
    refresh_later new same =
        let state : JournalState = record old.state { epoch = old.state.epoch + 1 } in
        let later : IsLater old.state state = record {
          more = [];
          is = sym (append-nil old.state.loaded);
          above = tt;
          gone = [];
          retired_is = sym (append-nil old.state.retired);
          after = tt;
          policy = omega arith;
          epoch = omega arith;
        } in
        subst (IsLater old.state) (sym same) later

    abbrev moved : Stage
    moved = after_event (turn_of w events.Update).world old

    update_stays : (number : ℕ) → slice_get (turn_of w events.Update).world.guests number ≡ slice_get w.guests number
    update_stays number = others_stay w events.Update number tt

    dropped_on : (aim : Option Aim) (guest quiet : ℕ) (new : Stage) → new ≡ dropped aim guest quiet moved
        → HasGoneOn events.Update new
    dropped_on None guest quiet new same = same_on events.Update new moved refl refl same update_stays
    dropped_on (Some aim) guest quiet new same =
        same_on events.Update new (dropped (Some aim) guest quiet moved) refl refl same update_stays

    made_on : (aim : Option Aim) (new : Stage) → IsMade plan modules aim moved new → HasGoneOn events.Update new
    made_on None new made = same_on events.Update new moved refl refl made update_stays
    made_on (Some (Loading number)) new made = record {
      world = ap (λ (x : Stage). x.world) made.1;
      stays = update_stays;
      later = load_later number made.0 new.state (ap (λ (x : Stage). x.state) made.1);
    }
    made_on (Some Refreshing) new made = record {
      world = ap (λ (x : Stage). x.world) made;
      stays = update_stays;
      later = refresh_later new.state (ap (λ (x : Stage). x.state) made);
    }

    noted_on : (phase : Phase) (answer : Turned) (new : Stage) → IsNoted plan modules phase answer moved new
        → HasGoneOn events.Update new
    noted_on phase (VersionsSpent guest quiet) new noted = dropped_on old.aim guest quiet new noted
    noted_on phases.Epoch Did new noted = made_on old.aim new noted
    noted_on phases.Epoch (Asks guest number) new noted = made_on old.aim new noted
    noted_on phases.Epoch EpochsSpent new noted = made_on old.aim new noted
    noted_on phases.Epoch Nothing new noted = made_on old.aim new noted
    noted_on phases.Idle Did new noted = same_on events.Update new moved refl refl noted update_stays
    noted_on phases.Idle (Asks guest number) new noted = same_on events.Update new moved refl refl noted update_stays
    noted_on phases.Idle EpochsSpent new noted = same_on events.Update new moved refl refl noted update_stays
    noted_on phases.Idle Nothing new noted = same_on events.Update new moved refl refl noted update_stays
    noted_on (phases.Testing k) Did new noted = same_on events.Update new moved refl refl noted update_stays
    noted_on (phases.Testing k) (Asks guest number) new noted =
        same_on events.Update new moved refl refl noted update_stays
    noted_on (phases.Testing k) EpochsSpent new noted = same_on events.Update new moved refl refl noted update_stays
    noted_on (phases.Testing k) Nothing new noted = same_on events.Update new moved refl refl noted update_stays
    noted_on (phases.Code k) Did new noted = same_on events.Update new moved refl refl noted update_stays
    noted_on (phases.Code k) (Asks guest number) new noted =
        same_on events.Update new moved refl refl noted update_stays
    noted_on (phases.Code k) EpochsSpent new noted = same_on events.Update new moved refl refl noted update_stays
    noted_on (phases.Code k) Nothing new noted = same_on events.Update new moved refl refl noted update_stays
    noted_on (phases.Tary k) Did new noted = same_on events.Update new moved refl refl noted update_stays
    noted_on (phases.Tary k) (Asks guest number) new noted =
        same_on events.Update new moved refl refl noted update_stays
    noted_on (phases.Tary k) EpochsSpent new noted = same_on events.Update new moved refl refl noted update_stays
    noted_on (phases.Tary k) Nothing new noted = same_on events.Update new moved refl refl noted update_stays
    noted_on (phases.Bary k) Did new noted = same_on events.Update new moved refl refl noted update_stays
    noted_on (phases.Bary k) (Asks guest number) new noted =
        same_on events.Update new moved refl refl noted update_stays
    noted_on (phases.Bary k) EpochsSpent new noted = same_on events.Update new moved refl refl noted update_stays
    noted_on (phases.Bary k) Nothing new noted = same_on events.Update new moved refl refl noted update_stays

    begun_on : (aim : Aim) (spent : JournalLine) (image : Option Image) (new : Stage) (answer : Turned) (u : World)
        → (turn_of w (events.Begin image)).world ≡ u → Begins aim spent old new image answer u
        → HasGoneOn (events.Begin image) new
    begun_on aim spent image new Did u is_world begun =
        same_on (events.Begin image) new (record (after_event u old) { aim = Some aim }) (sym is_world) refl begun
        (λ number. others_stay w (events.Begin image) number tt)
    begun_on aim spent image new EpochsSpent u is_world begun =
        same_on (events.Begin image) new (with_journal_line spent (after_event u old)) (sym is_world) refl begun
        (λ number. others_stay w (events.Begin image) number tt)
    begun_on aim spent image new (Asks guest number) u is_world begun = absurd begun
    begun_on aim spent image new (VersionsSpent guest quiet) u is_world begun = absurd begun
    begun_on aim spent image new Nothing u is_world begun = absurd begun

    -- ---- every event

    pub runs_after : (happening : Happening) (new : Stage) → Happens plan modules old new happening
        → IsTables new.world.tables → AllRun plan modules sound opening new.state new.world
    runs_after (OfGuest guest) new event then = guest_runs guest new event
    runs_after OfUpdate new event then =
        others_run events.Update new then
        (noted_on (phase_of t) (turn_of w events.Update).answer new event.is)
    runs_after (OfLoad number) new (inl told) then =
        subst (λ (s : Stage). AllRun plan modules sound opening s.state s.world) (sym told.is) runs
    runs_after (OfLoad number) new (inr load) then =
        others_run (events.Begin (Some load.image)) new then
        (begun_on (Loading number) _ (Some load.image) new _ (turn_of w (events.Begin (Some load.image))).world refl
        load.begins)
    runs_after OfRefresh new event then =
        others_run (events.Begin None) new then
        (begun_on Refreshing _ None new _ (turn_of w (events.Begin None)).world refl event)
    runs_after (OfRelease guest) new event then =
        others_run (events.Release guest) new then
        (same_on (events.Release guest) new (after_event (turn_of w (events.Release guest)).world old) refl refl
        event.is (λ number. others_stay w (events.Release guest) number tt))
