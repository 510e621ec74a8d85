-- A world is one after every list of events.
use Rattle.std.proofs.Common.{◌≡◌, ◌≢◌, ℕ, ◌+◌, ◌-◌, ◌<◌, ◌≤◌, ◌==◌, ◌&&◌, ◌||◌, nat_lt, nat_le, cond, Bool, true, false, List, [], ◌∷◌, ◌++◌, slice_get, slice_set, is_some, Option, Some, None, refl, sym, ap, subst, arith, rules, inl, inr}
use Rattle.std.proofs.lemmas.Bool.{cases_lt}
use Rattle.std.proofs.lemmas.Option.{slice_get_within}
use Rattle.cfi_word.specs.declared.lists.Image.{Image}
use Rattle.cfi_word.specs.declared.limits.TheConstants.{GUESTS, MAX_EPOCH}
use Rattle.cfi_model.specs.declared.history.Entry.{Entry}
use Rattle.cfi_model.specs.declared.phase.Phase.{Phase}
use Rattle.cfi_model.specs.declared.phase.Phase.TheVariants as phases
use Rattle.cfi_model.specs.declared.quiet.Point.TheVariants.{Outside, Leaving}
use Rattle.cfi_model.specs.declared.quiet.Quiet.{Quiet}
use Rattle.cfi_model.specs.declared.quiet.Quiet.TheVariants.{Unregistered, Parked, Published}
use Rattle.cfi_model.specs.Phases.{phase_after, phase_by, phase_of}
use Rattle.cfi_model.specs.Quiet.{admits}
use Rattle.cfi_model.specs.Raw.{Raw}
use Rattle.cfi_model.specs.Run.{serve_of}
use Rattle.cfi_model.specs.Service.{Reply}
use Rattle.cfi_model.specs.Words.{Tables, next_epoch, epoch_in_force}
use Rattle.cfi_model.specs.World.{World, quiet_of, point_of}
use Rattle.cfi_world.specs.Laws.{MayTurns, world_after}
use Rattle.cfi_world.specs.Premises.{HasRoom, MayAnswer, MayTurn}
use Rattle.cfi_world.specs.Seats.{Seat, seat_of, with_seat, seat_after, is_asking}
use Rattle.cfi_world.specs.Turns.{did, guest_turn, begin_turn, tested_turn, refused, update_turn, answered, answer_turn, is_registered, release_turn, reply_in, turn_of}
use Rattle.cfi_world.specs.Updates.{is_idle, begun, dropped, at_store, passed_by, stored}
use Rattle.cfi_world.specs.Worlds.{IsQuietSince, IsWorld, pending}
use Rattle.cfi_world.specs.declared.event.Event.{Event}
use Rattle.cfi_world.specs.declared.event.Event.TheVariants as events
use Rattle.cfi_model.proofs.PhaseLemmas.{phase_row}
use Rattle.cfi_world.proofs.SeatLemmas.{AreSeated}
use Rattle.cfi_world.proofs.ServiceLemmas as service
use Rattle.cfi_world.proofs.UpdateLemmas.{begun_is, begun_on, dropped_is, dropped_on, stored_is, stored_on, tested_is, tested_on, begins_is, begins_on, one_more}
use Rattle.cfi_world.proofs.StoringLemmas.{is_storing, idle_is, storing_is}
use Rattle.cfi_world.proofs.SeatedLemmas.{seated_in, world_later, world_seated}
use Rattle.cfi_world.proofs.SettledLemmas.{settled_rises}
use Rattle.cfi_world.proofs.ChoiceLemmas.{asked_some, asks_it, begins_or, both_hold, did_or, is_there, neither, not_last, not_some, row_none, set_again, set_there, spent_not, world_of}

module _ (w : World) (is : IsWorld w) where
  -- a guest's
  pub guest_by : (guest : ℕ) (r : Raw) → slice_get w.guests guest ≡ Some r → (still : Bool)
      → is_some r.base.stop || is_asking (point_of w guest) ≡ still
      → IsWorld (cond still w (with_seat w guest (seat_after w.tables w.fuel (seat_of w guest r))))
  guest_by guest r here true e = is
  guest_by guest r here false e =
      let going = not_some r.base.stop (neither (is_some r.base.stop) (is_asking (point_of w guest)) e).0 in
      world_seated w is guest r here (seat_after w.tables w.fuel (seat_of w guest r))
      (service.seat_goes w.tables is.tables w.fuel guest (seat_of w guest r) (seated_in w is guest r here) going).seated

  -- the beginning of an update
  pub begin_by : (image : Option Image) → HasRoom w image → (idle spent : Bool) → is_idle (phase_of w.tables) ≡ idle
      → (epoch_in_force w.tables == MAX_EPOCH) ≡ spent
      → IsWorld (cond idle (cond spent w (record w { tables = begun image w.tables; updates = w.updates + 1 })) w)
  begin_by image may true true idle spent = is
  begin_by image may false spent idle is_spent = is
  begin_by image may true false idle spent =
      let t : Tables = w.tables in
      let rests = idle_is t idle in
      let left : epoch_in_force t ≢ MAX_EPOCH = λ e. spent_not (epoch_in_force t) e spent in
      let later = begun_is t is.tables image rests may.may left in
      let none : pending t.asked ≡ 0 = ap pending rests.asked in
      world_later w is (begun image t) later (begun_on t is.tables image) (w.updates + 1) (omega arith)
      (λ guest r e q published since. record {
        newest = since.newest;
        next = λ asked less. absurd (omega (arith, less));
      })
      (omega (arith, may.room)) (omega (arith, is.entries_few, none))

  pub begun_kept : (image : Option Image) → HasRoom w image → is_idle (phase_of w.tables) ≡ true
      → epoch_in_force w.tables ≢ MAX_EPOCH
      → IsWorld (record w { tables = begun image w.tables; updates = w.updates + 1 })
  begun_kept image may idle left = begin_by image may true false idle (not_last (epoch_in_force w.tables) left)

  -- the test of a QUIET word: the guest that is tested lets the update go on
  pub record LetsOn (entry : Entry) : Type 0 where
    pub asked : w.tables.asked ≡ Some entry
    pub admits_it : admits w.tables.versions (next_epoch w.tables) (quiet_of w w.tables.tested) ≡ true

  lets_by : (versions epoch q : ℕ) → 3 ≤ versions → nat_le epoch (q + versions - 2) ≡ true → epoch + 2 ≤ q + versions
  lets_by versions epoch q some e =
      let most : epoch ≤ q + versions - 2 = search (rules, arith) in
      omega (arith, most, some)

  pub admits_by : (versions epoch : ℕ) (quiet : Quiet) (q : ℕ) → quiet ≡ Published q → 3 ≤ versions
      → admits versions epoch quiet ≡ true → epoch + 2 ≤ q + versions
  admits_by versions epoch Unregistered q published some e = absurd (cc)
  admits_by versions epoch Parked q published some e = absurd (cc)
  admits_by versions epoch (Published p) q published some e =
      let same : p ≡ q = cc in
      lets_by versions epoch q some (subst (λ n. nat_le epoch (n + versions - 2) ≡ true) same e)

  -- each guest that has been tested, and the one that is tested now, lets the update come
  let_through : (entry : Entry) → LetsOn entry → (guest : ℕ) (r : Raw) (q : ℕ) → quiet_of w guest ≡ Published q
      → (since : IsQuietSince w.tables guest r q) → guest ≤ w.tables.tested
      → next_epoch w.tables + 1 ≤ since.floor + w.tables.versions
  let_through entry lets guest r q published since most = elim (cases_lt guest w.tables.tested) [
    | inl before ↦ since.next (asked_some lets.asked) before
    | inr past ↦
        let same : guest ≡ w.tables.tested = omega (arith, most, past) in
        let low = admits_by w.tables.versions (next_epoch w.tables) (quiet_of w w.tables.tested) q
        (subst (λ g. quiet_of w g ≡ Published q) same published) is.tables.versions_least lets.admits_it in
        omega (arith, low, since.least)
  ]

  passed_kept : (entry : Entry) → LetsOn entry → (more : Bool) → nat_lt (w.tables.tested + 1) GUESTS ≡ more
      → IsWorld (record w {
        tables = cond more
            (record w.tables { tested = w.tables.tested + 1 })
            (at_store 0
            (record w.tables { entries = w.tables.entries ++ entry ∷ []; stored = 0; asked = None; tested = 0 }));
      })
  passed_kept entry lets true more =
      let t : Tables = w.tables in
      let less : t.tested + 1 < GUESTS = search (rules, arith) in
      let u : Tables = record t { tested = t.tested + 1 } in
      world_later w is u (tested_is t is.tables entry lets.asked less)
      (tested_on t is.tables entry lets.asked) w.updates (omega arith)
      (λ guest r e q published since. record {
        newest = since.newest;
        next = λ asked before. let_through entry lets guest r q published since (omega (arith, before));
      })
      is.room is.entries_few
  passed_kept entry lets false more =
      let t : Tables = w.tables in
      let u : Tables = at_store 0
      (record t { entries = t.entries ++ entry ∷ []; stored = 0; asked = None; tested = 0 }) in
      let last : GUESTS ≤ t.tested + 1 = search (rules, arith) in
      let longer = one_more t is.tables entry lets.asked in
      let one : pending t.asked ≡ 1 = ap pending lets.asked in
      let more : next_epoch t < next_epoch u = omega (arith, longer) in
      world_later w is u (begins_is t is.tables entry lets.asked) (begins_on t is.tables entry lets.asked) w.updates
      (settled_rises t u refl (λ some. inl more) (omega (arith, more)))
      (λ guest r e q published since. record {
        newest =
            let inside = slice_get_within w.guests guest r e in
            let through = let_through entry lets guest r q published since (omega (arith, inside, is.few, last)) in
            omega (arith, longer, through);
        next = λ asked before. absurd (asked refl);
      })
      is.room (omega (arith, longer, one, is.entries_few))

  pub passed_all : (asked : Option Entry) → w.tables.asked ≡ asked
      → admits w.tables.versions (next_epoch w.tables) (quiet_of w w.tables.tested) ≡ true
      → IsWorld (record w { tables = passed_by asked w.tables })
  passed_all None none lets = is
  passed_all (Some entry) some lets =
      passed_kept entry (record { asked = some; admits_it = lets }) (nat_lt (w.tables.tested + 1) GUESTS) refl

  pub refused_kept : (guest : ℕ) (quiet : Quiet) → IsWorld (refused w guest quiet).world
  refused_kept guest Unregistered = is
  refused_kept guest Parked = is
  refused_kept guest (Published quiet) =
      world_later w is (dropped w.tables) (dropped_is w.tables is.tables) (dropped_on w.tables is.tables) w.updates
      (omega arith)
      (λ other r e q published since. record { newest = since.newest; next = λ asked before. absurd (asked refl) })
      is.room (omega (arith, is.entries_few))

  tested_by : (lets : Bool) → admits w.tables.versions (next_epoch w.tables) (quiet_of w w.tables.tested) ≡ lets
      → IsWorld (cond lets (did (record w { tables = passed_by w.tables.asked w.tables }))
      (refused w w.tables.tested (quiet_of w w.tables.tested))).world
  tested_by true e = passed_all w.tables.asked refl e
  tested_by false e = refused_kept w.tables.tested (quiet_of w w.tables.tested)

  -- a store
  pub stored_kept : is_storing (phase_of w.tables) ≡ true → IsWorld (record w { tables = stored w.tables })
  stored_kept e =
      let storing = storing_is w.tables e in
      let none : pending w.tables.asked ≡ 0 = ap pending storing.asked in
      world_later w is (stored w.tables) (stored_is w.tables is.tables storing) (stored_on w.tables is.tables) w.updates
      (settled_rises w.tables (stored w.tables) refl (λ some. inr (omega arith)) (omega arith))
      (λ guest r here q published since. record {
        newest = since.newest;
        next = λ asked before. absurd (asked storing.asked);
      })
      is.room is.entries_few

  pub testing_is : (asked : Option Entry) (tested c s guest : ℕ) → phase_by asked tested c s ≡ phases.Testing guest
      → guest ≡ tested
  testing_is (Some entry) tested c s guest e = cc
  testing_is None tested c s guest e = absurd (row_none c s (phase_after c s) guest (phase_row c s) e)

  update_by : (phase : Phase) → phase_of w.tables ≡ phase → IsWorld (update_turn w phase).world
  update_by phases.Idle e = is
  update_by (phases.Testing guest) e =
      let same = testing_is w.tables.asked w.tables.tested w.tables.code_words w.tables.stored guest e in
      subst (λ g. IsWorld (tested_turn w g (quiet_of w g)).world) (sym same)
      (tested_by (admits w.tables.versions (next_epoch w.tables) (quiet_of w w.tables.tested)) refl)
  update_by (phases.Code index) e = stored_kept (ap is_storing e)
  update_by (phases.Tary index) e = stored_kept (ap is_storing e)
  update_by phases.Epoch e = stored_kept (ap is_storing e)
  update_by (phases.Bary slot) e = stored_kept (ap is_storing e)

  -- an answer
  pub answer_by : (guest : ℕ) (reply : Reply) → MayAnswer w reply → (r : Raw) → slice_get w.guests guest ≡ Some r
      → (asking : Bool) → is_asking (point_of w guest) ≡ asking
      → IsWorld (cond asking (answered w guest reply r) w)
  answer_by guest reply may r here false e = is
  answer_by guest reply may r here true e =
      let s : Seat = seat_of w guest r in
      let new : Seat = record s { guest = serve_of r reply; point = Leaving } in
      let both = service.answered w.tables is.tables w.fuel guest s (seated_in w is guest r here)
      (asks_it (point_of w guest) e) reply may.policy may.few may.inside in
      let same = set_again w.quiets guest Unregistered in
      subst (λ quiets. IsWorld (record (answered w guest reply r) { quiets = quiets })) same
      (world_seated w is guest r here new both.seated)

  -- a release
  pub release_by : (guest : ℕ) (r : Raw) → slice_get w.guests guest ≡ Some r → (may : Bool)
      → is_some r.base.stop && (is_registered (quiet_of w guest) && is_idle (phase_of w.tables)) ≡ may
      → IsWorld (cond may (record w { quiets = slice_set w.quiets guest Unregistered }) w)
  release_by guest r here false e = is
  release_by guest r here true e =
      let stops = is_there r.base.stop (both_hold (is_some r.base.stop) _ e).0 in
      let s : Seat = seat_of w guest r in
      let before = seated_in w is guest r here in
      let new : Seat = record s { quiet = Unregistered } in
      let both : AreSeated w.tables is.tables w.fuel guest new = record {
        seat = record {
          steps_most = before.seat.steps_most;
          steps_left = before.seat.steps_left;
          stopped = before.seat.stopped;
          point = before.seat.point;
          logged = before.seat.logged;
        };
        running = record {
          retries = before.running.retries;
          shown = before.running.shown;
          runs = before.running.runs;
          spent = before.running.spent;
          quiet = stops;
        };
      } in
      let guests : slice_set w.guests guest r ≡ w.guests = set_there w.guests guest r here in
      let points = set_again w.points guest Outside in
      subst (λ ps. IsWorld (record w { quiets = slice_set w.quiets guest Unregistered; points = ps })) points
      (subst (λ gs. IsWorld (record w {
        quiets = slice_set w.quiets guest Unregistered;
        guests = gs;
        points = slice_set w.points guest (point_of w guest);
      })) guests (world_seated w is guest r here new both))

  guest_is : (guest : ℕ) (o : Option Raw) → slice_get w.guests guest ≡ o → IsWorld (guest_turn w guest o).world
  guest_is guest None e = is
  guest_is guest (Some r) e =
      let still : Bool = is_some r.base.stop || is_asking (point_of w guest) in
      world_of still w (seat_after w.tables w.fuel (seat_of w guest r)) guest (guest_by guest r e still refl)

  answer_is : (guest : ℕ) (reply : Reply) → MayAnswer w reply → (o : Option Raw) → slice_get w.guests guest ≡ o
      → IsWorld (answer_turn w guest reply o).world
  answer_is guest reply may None e = is
  answer_is guest reply may (Some r) e =
      did_or (is_asking (point_of w guest)) (answered w guest reply r) w
      (answer_by guest reply may r e (is_asking (point_of w guest)) refl)

  release_is : (guest : ℕ) (o : Option Raw) → slice_get w.guests guest ≡ o → IsWorld (release_turn w guest o).world
  release_is guest None e = is
  release_is guest (Some r) e =
      let may : Bool = is_some r.base.stop && (is_registered (quiet_of w guest) && is_idle (phase_of w.tables)) in
      did_or may (record w { quiets = slice_set w.quiets guest Unregistered }) w (release_by guest r e may refl)

  begin_is : (image : Option Image) → HasRoom w image → IsWorld (begin_turn w image).world
  begin_is image may =
      begins_or (is_idle (phase_of w.tables)) (epoch_in_force w.tables == MAX_EPOCH) w
      (record w { tables = begun image w.tables; updates = w.updates + 1 })
      (begin_by image may (is_idle (phase_of w.tables)) (epoch_in_force w.tables == MAX_EPOCH) refl refl)

  -- every event
  pub turn_kept : (event : Event) → MayTurn w event → IsWorld (turn_of w event).world
  turn_kept (events.Guest guest) may = guest_is guest (slice_get w.guests guest) refl
  turn_kept (events.Begin image) may = begin_is image may
  turn_kept events.Update may = update_by (phase_of w.tables) refl
  turn_kept (events.Answer guest answer) may = answer_is guest (reply_in answer) may (slice_get w.guests guest) refl
  turn_kept (events.Release guest) may = release_is guest (slice_get w.guests guest) refl

-- every list of events
pub stays_a_world : (w : World) → IsWorld w → (events : List Event) → MayTurns w events → IsWorld (world_after w events)
stays_a_world w is [] may = is
stays_a_world w is (event ∷ later) may =
    stays_a_world (turn_of w event).world (turn_kept w is event may.0) later may.1
