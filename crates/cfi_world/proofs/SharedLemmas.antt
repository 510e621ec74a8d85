-- Each turn of a world is an event on what is shared.
use Rattle.std.proofs.Common.{◌≡◌, ◌≢◌, ℕ, ◌+◌, ◌==◌, nat_lt, cond, Bool, true, false, [], ◌∷◌, ◌++◌, slice_get, Option, Some, None, refl, sym, ap, subst, ◌∙◌, arith}
use Rattle.cfi_word.specs.declared.lists.Image.{Image}
use Rattle.cfi_word.specs.declared.limits.TheConstants.{GUESTS, MAX_EPOCH}
use Rattle.cfi_word.specs.Table.{Place, IsPlace}
use Rattle.cfi_word.specs.Table as places
use Rattle.cfi_model.specs.declared.history.Entry.{Entry}
use Rattle.cfi_model.specs.declared.phase.Phase.{Phase}
use Rattle.cfi_model.specs.declared.phase.Phase.TheVariants as phases
use Rattle.cfi_model.specs.declared.quiet.Quiet.{Quiet}
use Rattle.cfi_model.specs.declared.quiet.Quiet.TheVariants.{Unregistered, Parked, Published}
use Rattle.cfi_model.specs.Phases.{phase_after, phase_by, phase_of}
use Rattle.cfi_model.specs.Quiet.{admits, quiet_word_of}
use Rattle.cfi_model.specs.SharedEvents.{Past, SharedEvent, AreSame, Makes, MakesPark, MakesPublish, IsSet, past_passed}
use Rattle.cfi_model.specs.SharedEvents as shared
use Rattle.cfi_model.specs.Tables.{IsAsked, MayBeAsked}
use Rattle.cfi_model.specs.Words.{Tables, HasStore, epoch_in_force, newest, next_epoch, rank_at, word_of_entry}
use Rattle.cfi_model.specs.World.{World, quiet_of, shared_word}
use Rattle.cfi_model.proofs.PhaseLemmas.{IsRow, phase_row}
use Rattle.cfi_world.specs.SharedTurns.{MakesIf, event_in, passed_event, refused_event, shared_in, tested_in, update_event}
use Rattle.cfi_world.specs.Turns.{begin_turn, did, nothing, refused, reply_in, turn_of, update_turn}
use Rattle.cfi_world.specs.Updates.{at_store, begun, is_idle, passed_by, stored}
use Rattle.cfi_world.specs.Worlds.{IsWorld}
use Rattle.cfi_world.specs.declared.event.Event.{Event}
use Rattle.cfi_world.specs.declared.event.Event.TheVariants as events
use Rattle.cfi_world.specs.declared.event.Turned.TheVariants.{EpochsSpent}
use Rattle.cfi_world.proofs.SkipLemmas.{begins_stay, rank_most, same_rank, store_new, store_stays, word_new, word_old}
use Rattle.cfi_world.proofs.StoringLemmas.{idle_is}
use Rattle.cfi_world.proofs.SharedGuests as guests
use Rattle.cfi_world.proofs.SharedWords.{same_by, word_is, words_by}

module _ (w : World) (is : IsWorld w) where
  abbrev t : Tables
  t = w.tables

  stays : AreSame (shared_in w) (shared_in w)
  stays = same_by w w refl refl

  -- ---- the updater

  -- the past, but for the number of QUIET words that have passed
  abbrev past : (tested : ℕ) → Past
  past tested = record {
    code_words = t.code_words;
    versions = t.versions;
    first = t.first;
    entries = t.entries;
    tested = tested;
  }

  begin_makes : (image : Option Image) → AreSame (shared_in w) (shared_in (begin_turn w image).world)
  begin_makes image = by (is_idle (phase_of t)) (epoch_in_force t == MAX_EPOCH) refl
    where
      by : (idle spent : Bool) → is_idle (phase_of t) ≡ idle
          → AreSame (shared_in w) (shared_in (cond idle (cond spent (record { world = w; answer = EpochsSpent })
          (did (record w { tables = begun image t; updates = w.updates + 1 }))) (nothing w)).world)
      by false spent idle = stays
      by true true idle = stays
      by true false idle = record {
        past = ap past (sym (ap (λ (o : Option Entry). tested_in o t.tested) (idle_is t idle).asked));
        words = words_by w (record w { tables = begun image t; updates = w.updates + 1 }) refl (λ place at has. refl);
      }

  store_makes : (place : Place) → IsPlace t.code_words place → HasStore place → rank_at t.code_words place ≡ t.stored
      → Makes (shared.Store place) (shared_in w) (shared_in (record w { tables = stored t }))
  store_makes place at has here =
      let v : World = record w { tables = stored t } in
      record {
        stored = has;
        before = λ other inside stores less.
            word_is w other stores ∙ word_new t other (omega (arith, less, here));
        after = λ other inside stores more.
            word_is w other stores ∙ word_old t other (omega (arith, more, here));
        set = record {
          past = refl;
          within = at;
          here = word_is v place has ∙ store_new t is.tables place here;
          others = words_apart;
        };
      }
    where
      words_apart : (other : Place) → IsPlace t.code_words other → other ≢ place
          → shared_word (record w { tables = stored t }) other ≡ shared_word w other
      words_apart (places.Quiet guest) inside apart = refl
      words_apart places.Epoch inside apart = store_stays t is.tables places.Epoch tt
          (λ e. apart (same_rank t.code_words places.Epoch place inside at tt has (e ∙ sym here)))
      words_apart (places.Code index) inside apart = store_stays t is.tables (places.Code index) tt
          (λ e. apart (same_rank t.code_words (places.Code index) place inside at tt has (e ∙ sym here)))
      words_apart (places.Tary index) inside apart = store_stays t is.tables (places.Tary index) tt
          (λ e. apart (same_rank t.code_words (places.Tary index) place inside at tt has (e ∙ sym here)))
      words_apart (places.Bary slot) inside apart = store_stays t is.tables (places.Bary slot) tt
          (λ e. apart (same_rank t.code_words (places.Bary slot) place inside at tt has (e ∙ sym here)))

  -- the next store, by the phase
  stores_by : (phase : Phase) → IsRow t.code_words t.stored phase
      → MakesIf (update_event w phase) (shared_in w) (shared_in (update_turn w phase).world)
  stores_by phases.Idle row = stays
  stores_by (phases.Testing guest) row = absurd row
  stores_by (phases.Code next) row =
      store_makes (places.Code next) (omega (arith, row.0, row.1)) tt row.1
  stores_by (phases.Tary next) row =
      store_makes (places.Tary next) (omega (arith, row.0, row.1, row.2)) tt row.2
  stores_by phases.Epoch row = store_makes places.Epoch tt tt (sym row)
  stores_by (phases.Bary next) row =
      store_makes (places.Bary next) (omega (arith, row.0, row.1, row.2)) tt row.2

  -- the test of a QUIET word
  module _ (entry : Entry) (asked : t.asked ≡ Some entry) where
    asks : IsAsked t entry
    asks = subst (MayBeAsked t) asked is.tables.asked_fits

    tested_is : tested_in t.asked t.tested ≡ t.tested
    tested_is = ap (λ (o : Option Entry). tested_in o t.tested) asked

    settled : (place : Place) → IsPlace t.code_words place → HasStore place
        → shared_word w place ≡ word_of_entry t (newest t) place
    settled place at has =
        word_is w place has ∙ word_new t place (omega (arith, rank_most t.code_words place at has, asks.idle))

    abbrev on : Tables
    on = record t { tested = t.tested + 1 }

    abbrev longer : Tables
    longer = record t { entries = t.entries ++ entry ∷ []; stored = 0; asked = None; tested = 0 }

    abbrev next_past : (more : Bool) → Past
    next_past more =
        cond more (past (t.tested + 1)) (record (past t.tested) { entries = t.entries ++ entry ∷ []; tested = 0 })

    passes : (more : Bool) → nat_lt (t.tested + 1) GUESTS ≡ more
        → admits t.versions (next_epoch t) (quiet_of w t.tested) ≡ true
        → Makes (shared.Pass entry) (shared_in w)
        (shared_in (record w { tables = cond more on (at_store 0 longer) }))
    passes true more lets = record {
      within = omega (arith, tested_is, asks.guest);
      settled = settled;
      quiet = quiet_of w t.tested;
      found = ap (λ (n : ℕ). quiet_word_of (quiet_of w n)) tested_is;
      admitted = lets;
      past = ap past (ap (λ (o : Option Entry). tested_in o (t.tested + 1)) asked)
          ∙ (sym (ap next_past more) ∙ sym (ap (past_passed entry) (ap past tested_is)));
      words = words_by w (record w { tables = on }) refl (λ place at has. refl);
    }
    passes false more lets = record {
      within = omega (arith, tested_is, asks.guest);
      settled = settled;
      quiet = quiet_of w t.tested;
      found = ap (λ (n : ℕ). quiet_word_of (quiet_of w n)) tested_is;
      admitted = lets;
      past = sym (ap next_past more) ∙ sym (ap (past_passed entry) (ap past tested_is));
      words = words_by w (record w { tables = at_store 0 longer }) refl (begins_stay t is.tables entry asks);
    }

    refuses : (quiet : Quiet) → quiet_of w t.tested ≡ quiet → admits t.versions (next_epoch t) quiet ≡ false
        → MakesIf (refused_event w t.tested quiet) (shared_in w) (shared_in (refused w t.tested quiet).world)
    refuses Unregistered same spent = stays
    refuses Parked same spent = stays
    refuses (Published quiet) same spent = record {
      turn = sym tested_is;
      within = asks.guest;
      found = ap quiet_word_of same;
      epoch_is = refl;
      spent = spent;
      past = refl;
      words = words_by w (refused w t.tested (Published quiet)).world refl (λ place at has. refl);
    }

    tests_by : (lets : Bool) → admits t.versions (next_epoch t) (quiet_of w t.tested) ≡ lets
        → MakesIf (cond lets (passed_event t.asked) (refused_event w t.tested (quiet_of w t.tested))) (shared_in w)
        (shared_in (cond lets (did (record w { tables = passed_by t.asked t }))
        (refused w t.tested (quiet_of w t.tested))).world)
    tests_by true lets =
        subst (λ (o : Option Entry).
        MakesIf (passed_event o) (shared_in w) (shared_in (record w { tables = passed_by o t }))) (sym asked)
        (passes (nat_lt (t.tested + 1) GUESTS) refl lets)
    tests_by false lets = refuses (quiet_of w t.tested) refl lets

  update_by : (asked : Option Entry) → t.asked ≡ asked
      → MakesIf (update_event w (phase_by asked t.tested t.code_words t.stored)) (shared_in w)
      (shared_in (update_turn w (phase_by asked t.tested t.code_words t.stored)).world)
  update_by None asked = stores_by (phase_after t.code_words t.stored) (phase_row t.code_words t.stored)
  update_by (Some entry) asked =
      tests_by entry asked (admits t.versions (next_epoch t) (quiet_of w t.tested)) refl

  pub turn_makes : (event : Event) → MakesIf (event_in w event) (shared_in w) (shared_in (turn_of w event).world)
  turn_makes (events.Guest guest) = guests.guest_makes w is guest (slice_get w.guests guest) refl
  turn_makes (events.Begin image) = begin_makes image
  turn_makes events.Update = update_by t.asked refl
  turn_makes (events.Answer guest answer) = guests.answer_makes w is guest (reply_in answer) (slice_get w.guests guest)
  turn_makes (events.Release guest) = guests.release_makes w is guest (slice_get w.guests guest) refl
