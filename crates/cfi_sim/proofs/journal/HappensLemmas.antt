-- Every event of a schedule leaves the world in agreement with the journal, and the journal legal.
use Rattle.std.specs.Prelude.{⊤}
use Rattle.std.proofs.Common.{◌≡◌, ℕ, ◌≤◌, ◌&&◌, ◌||◌, cond, Bool, true, false, List, slice_get, slice_set, is_some, Option, Some, None, refl, sym, ◌∙◌, ap, subst, arith, inl, inr}
use Rattle.std.specs.List.{All}
use Rattle.cfi_modules.proofs.PrefixLemmas.{data_lies}
use Rattle.cfi_model.proofs.TableLemmas.{force_policy}
use Rattle.cfi_world.specs.declared.event.Event.TheVariants as events
use Rattle.cfi_world.specs.declared.event.Turned.TheVariants.{Did, Asks, VersionsSpent, EpochsSpent, Nothing}
use Rattle.cfi_model.specs.Words.{Tables, epoch_in_force, policy_in_force}
use Rattle.cfi_sim.specs.declared.found.Found.{Found}
use Rattle.cfi_sim.specs.Events.{reply_by, GuestTurns, IsGuestEvent, IsReleaseEvent}
use Rattle.cfi_world.specs.Updates.{is_idle}
use Rattle.cfi_model.specs.Raw.{Raw}
use Rattle.cfi_sim.specs.declared.aim.Aim.TheVariants.{Loading, Refreshing}
use Rattle.cfi_sim.specs.Stage.{Stage, after_event}
use Rattle.cfi_model.specs.Service.{Reply}
use Rattle.cfi_sim.proofs.guests.DueLemmas.{found_may}
use Rattle.cfi_sim.proofs.journal.BegunLemmas.{some_fills, comes, begin_agrees, refresh_may, load_may}
use Rattle.cfi_model.specs.Run.{serve_of}
use Rattle.cfi_sim.specs.Stands.{Holds}
use Rattle.cfi_sim.specs.Agrees.{TablesAgree, GuestsAgree, WorldAgrees}
use Rattle.cfi_sim.proofs.journal.SeatsLemmas.{turn_agrees, answer_agrees, release_agrees}
use Rattle.cfi_aux.specs.declared.modules.Module.{Module}
use Rattle.cfi_sim.proofs.journal.AdvanceLemmas.{update_agrees}
use Rattle.cfi_world.specs.declared.event.Turned.{Turned}
use Rattle.cfi_world.proofs.OthersLemmas.{only_updates}
use Rattle.cfi_model.specs.declared.quiet.Quiet.TheVariants.{Unregistered}
use Rattle.cfi_sim.specs.declared.limits.TheConstants.{MAX_UPDATES}
use Rattle.cfi_world.specs.Turns.{Turn, did, nothing, seated, guest_turn, answered, answer_turn, is_registered, release_turn, turn_of}
use Rattle.cfi_plan.specs.declared.plan.Plan.{Plan}
use Rattle.cfi_model.specs.Phases.{phase_of}
use Rattle.cfi_world.specs.Premises.{MayAnswer}
use Rattle.cfi_world.specs.declared.event.Event.{Event}
use Rattle.cfi_sim.proofs.journal.TellLemmas.{tell, epoch_is}
use Rattle.cfi_world.proofs.WorldLemmas.{turn_kept}
use Rattle.cfi_valid.specs.Loaded.{placed_modules}
use Rattle.cfi_sim.proofs.journal.LegalLemmas.{event_stands}
use Rattle.cfi_world.specs.Worlds.{IsWorld}
use Rattle.cfi_sim.specs.Reach.{Happening, OfGuest, OfUpdate, OfLoad, OfRefresh, OfRelease, Happens}
use Rattle.cfi_aux.specs.Sound.{IsSoundModule}
use Rattle.cfi_world.specs.Seats.{seat_of, seat_after, is_asking}
use Rattle.cfi_valid.specs.Journal.{JournalState}
use Rattle.cfi_model.specs.World.{World, quiet_of, point_of}

-- an event that may begin an update leaves the number of updates within its limit
abbrev pub HasRoomFor : Happening → Stage → Type 0
HasRoomFor (OfGuest guest) new = ⊤
HasRoomFor OfUpdate new = ⊤
HasRoomFor (OfLoad number) new = new.world.updates ≤ MAX_UPDATES
HasRoomFor OfRefresh new = new.world.updates ≤ MAX_UPDATES
HasRoomFor (OfRelease guest) new = ⊤

module _ (plan : Plan) (modules : List Module) (sound : All IsSoundModule modules) (opening : JournalState) where
  module _ (old : Stage) (holds : Holds plan modules opening old) where
    abbrev w : World
    w = old.world

    abbrev t : Tables
    t = w.tables

    is : IsWorld w
    is = holds.agrees.world

    -- ---- a guest

    force_least : plan.first ≤ epoch_in_force t
    force_least =
        let epoch = epoch_is plan modules old holds.agrees in
        omega (arith, epoch, holds.agrees.tables.epoch)

    pub policy_is : policy_in_force t ≡ old.state.policy
    policy_is = force_policy t is.tables ∙ sym holds.agrees.tables.policy

    -- what a guest is answered fits the world
    pub reply_may : (mid : World) → mid.tables ≡ t → (s : Raw) (found : Found)
        → MayAnswer mid (reply_by old.state s.base found)
    reply_may mid same s found =
        found_may mid found old.state.policy _ (sym policy_is ∙ ap (λ (u : Tables). policy_in_force u) (sym same))
        (some_fills _ old.state.loaded
        (data_lies plan.code_words (placed_modules old.state.loaded) holds.agrees.tables.series))

    -- the event of an answer
    abbrev pub answer_event : (guest : ℕ) → Reply → Event
    answer_event guest reply = events.Answer guest (record {
      address = reply.address;
      cause = reply.cause;
      policy = reply.policy;
      fills = record { now = reply.fills; ref_ptr = (0, 0) };
    })

    -- a world that has the tables of this one
    pub record IsBeside (mid : World) : Type 0 where
      pub world : IsWorld mid
      pub tables : mid.tables ≡ t
      pub guests : GuestsAgree plan mid

    beside_agrees : (mid : World) → IsBeside mid → WorldAgrees plan modules (after_event mid old)
    beside_agrees mid beside = record {
      world = beside.world;
      tables = subst (TablesAgree plan modules old.state old.aim) (sym beside.tables) holds.agrees.tables;
      guests = beside.guests;
    }

    self : IsBeside w
    self = record { world = is; tables = refl; guests = holds.agrees.guests }

    answered_guests : (mid : World) → IsBeside mid → (guest : ℕ) (reply : Reply) (o : Option Raw)
        → slice_get mid.guests guest ≡ o → GuestsAgree plan (answer_turn mid guest reply o).world
    answered_guests mid beside guest reply None there = beside.guests
    answered_guests mid beside guest reply (Some r) there = by_asking (is_asking (point_of mid guest))
      where
        by_asking : (asking : Bool)
            → GuestsAgree plan (cond asking (did (answered mid guest reply r)) (nothing mid)).world
        by_asking true =
            answer_agrees plan mid beside.world beside.guests guest r there (serve_of r reply)
        by_asking false = beside.guests

    -- after the answer
    pub answered_beside : (mid : World) → IsBeside mid → (guest : ℕ) (s : Raw) (found : Found) (r : Raw)
        → slice_get mid.guests guest ≡ Some r
        → IsBeside (answer_turn mid guest (reply_by old.state s.base found) (Some r)).world
    answered_beside mid beside guest s found r there =
        let reply : Reply = reply_by old.state s.base found in
        let event : Event = answer_event guest reply in
        let turned : (turn_of mid event).world ≡ (answer_turn mid guest reply (Some r)).world =
        ap (λ (o : Option Raw). (answer_turn mid guest reply o).world) there in
        record {
          world = subst IsWorld turned (turn_kept mid beside.world event (reply_may mid beside.tables s found));
          tables = ap (λ (v : World). v.tables) (sym turned) ∙ only_updates mid event (λ none. none) ∙ beside.tables;
          guests = answered_guests mid beside guest reply (Some r) there;
        }

    turned_guests : (guest : ℕ) (o : Option Raw) → slice_get w.guests guest ≡ o
        → GuestsAgree plan (guest_turn w guest o).world
    turned_guests guest None there = holds.agrees.guests
    turned_guests guest (Some r) there = by_still (is_some r.base.stop || is_asking (point_of w guest))
      where
        by_still : (still : Bool)
            → GuestsAgree plan
            (cond still (nothing w) (seated w guest (seat_after w.tables w.fuel (seat_of w guest r)))).world
        by_still true = holds.agrees.guests
        by_still false = turn_agrees plan w is holds.agrees.guests guest r there force_least

    -- after a turn of a guest
    pub turned_beside : (guest : ℕ) → IsBeside (turn_of w (events.Guest guest)).world
    turned_beside guest = record {
      world = turn_kept w is (events.Guest guest) tt;
      tables = only_updates w (events.Guest guest) (λ none. none);
      guests = turned_guests guest (slice_get w.guests guest) refl;
    }

    guest_beside : (guest : ℕ) (mid new : World) (answer : Turned) → IsBeside mid
        → GuestTurns plan old.state mid new guest answer → IsBeside new
    guest_beside guest mid new Did beside turns = subst IsBeside (sym turns) beside
    guest_beside guest mid new (Asks asking number) beside turns =
        subst IsBeside (sym turns.is) (answered_beside mid beside guest turns.r turns.found turns.r turns.there)
    guest_beside guest mid new (VersionsSpent other quiet) beside turns = absurd turns
    guest_beside guest mid new EpochsSpent beside turns = absurd turns
    guest_beside guest mid new Nothing beside turns = absurd turns

    guest_agrees : (guest : ℕ) (new : Stage) → IsGuestEvent plan guest old new → WorldAgrees plan modules new
    guest_agrees guest new event =
        let turn : Turn = turn_of w (events.Guest guest) in
        subst (WorldAgrees plan modules) (sym event.is)
        (beside_agrees event.world (guest_beside guest turn.world event.world turn.answer (turned_beside guest)
        event.turns))

    -- ---- a release

    released_guests : (guest : ℕ) (o : Option Raw) → slice_get w.guests guest ≡ o
        → GuestsAgree plan (release_turn w guest o).world
    released_guests guest None there = holds.agrees.guests
    released_guests guest (Some r) there =
        by_may (is_some r.base.stop && (is_registered (quiet_of w guest) && is_idle (phase_of w.tables)))
      where
        by_may : (may : Bool)
            → GuestsAgree plan
            (cond may (did (record w { quiets = slice_set w.quiets guest Unregistered })) (nothing w)).world
        by_may true = release_agrees plan w is holds.agrees.guests guest r there
        by_may false = holds.agrees.guests

    release_agree : (guest : ℕ) (new : Stage) → IsReleaseEvent guest old new → WorldAgrees plan modules new
    release_agree guest new event =
        subst (WorldAgrees plan modules) (sym event.is)
        (beside_agrees (turn_of w (events.Release guest)).world (record {
          world = turn_kept w is (events.Release guest) tt;
          tables = only_updates w (events.Release guest) (λ none. none);
          guests = released_guests guest (slice_get w.guests guest) refl;
        }))

    -- ---- every event

    agrees_after : (happening : Happening) (new : Stage) → Happens plan modules old new happening
        → HasRoomFor happening new → WorldAgrees plan modules new
    agrees_after (OfGuest guest) new event few = guest_agrees guest new event
    agrees_after OfUpdate new event few =
        update_agrees plan modules old holds.agrees (comes plan modules sound opening old holds) new event
    agrees_after (OfLoad number) new (inl told) few =
        subst (WorldAgrees plan modules) (sym told.is)
        (record { world = is; tables = holds.agrees.tables; guests = holds.agrees.guests })
    agrees_after (OfLoad number) new (inr load) few =
        begin_agrees plan modules sound opening old holds (Loading number) _ (Some load.image) new
        (load_may plan modules sound opening old holds number load.clean load.image load.of_all) few load.begins
    agrees_after OfRefresh new event few =
        begin_agrees plan modules sound opening old holds Refreshing _ None new
        (refresh_may plan modules sound opening old holds) few event
    agrees_after (OfRelease guest) new event few = release_agree guest new event

    pub holds_after : (happening : Happening) (new : Stage) → Happens plan modules old new happening
        → HasRoomFor happening new → Holds plan modules opening new
    holds_after happening new event few = record {
      stands = event_stands plan modules opening happening old new holds.stands (tell plan modules old holds.agrees)
          event;
      agrees = agrees_after happening new event few;
    }
