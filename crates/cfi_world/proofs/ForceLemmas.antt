-- What is in force never falls, and what loads find.
use Rattle.std.proofs.Common.{◌≡◌, ℕ, ◌+◌, ◌%◌, ◌<◌, ◌≤◌, ◌==◌, nat_lt, cond, Bool, true, false, slice_get, Option, Some, None, refl, arith, inl, inr}
use Rattle.std.proofs.lemmas.Bool.{cases_lt}
use Rattle.cfi_word.specs.declared.lists.Image.{Image}
use Rattle.cfi_word.specs.declared.limits.TheConstants.{GUESTS, MAX_EPOCH}
use Rattle.cfi_word.specs.Rank.{stores_of}
use Rattle.cfi_word.specs.Table.{Epoch, Tary, Bary, slots_of}
use Rattle.cfi_word.specs.Word.{epoch_in}
use Rattle.cfi_model.specs.declared.history.Entry.{Entry}
use Rattle.cfi_model.specs.declared.phase.Phase.{Phase}
use Rattle.cfi_model.specs.declared.phase.Phase.TheVariants as phases
use Rattle.cfi_model.specs.declared.quiet.Quiet.{Quiet}
use Rattle.cfi_model.specs.declared.quiet.Quiet.TheVariants.{Unregistered, Parked, Published}
use Rattle.cfi_model.specs.InForce.{GoesOn, code_in_force, history_of, tary_index}
use Rattle.cfi_model.specs.Phases.{phase_of}
use Rattle.cfi_model.specs.Quiet.{admits}
use Rattle.cfi_model.specs.Raw.{Raw}
use Rattle.cfi_model.specs.Service.{Reply}
use Rattle.cfi_model.specs.Tables.{IsTables}
use Rattle.cfi_model.specs.Words.{Tables, epoch_in_force, policy_in_force, next_epoch, word_at}
use Rattle.cfi_model.specs.World.{World, quiet_of}
use Rattle.cfi_model.proofs.InForceLemmas.{force_rises, history_is, policy_rises, bary_epoch, bary_epoch_is, tary_epoch, tary_epoch_is, index_within}
use Rattle.cfi_model.proofs.TableLemmas.{force_epoch}
use Rattle.cfi_world.specs.Laws.{IsBaryLoad, IsTaryLoad}
use Rattle.cfi_world.specs.Premises.{MayTurn}
use Rattle.cfi_world.specs.Seats.{Seat, seat_of}
use Rattle.cfi_world.specs.Turns.{Turn, guest_turn, begin_turn, refused, update_turn, answer_turn, release_turn, reply_in, turn_of}
use Rattle.cfi_world.specs.Updates.{is_idle, passed_by}
use Rattle.cfi_world.specs.Worlds.{IsWorld}
use Rattle.cfi_world.specs.declared.event.Event.{Event}
use Rattle.cfi_world.specs.declared.event.Event.TheVariants as events
use Rattle.cfi_world.proofs.FitLemmas.{fair_word}
use Rattle.cfi_world.proofs.ParkLemmas.{has_published, keeps_outside}
use Rattle.cfi_world.proofs.SettledLemmas.{number_cases}
use Rattle.cfi_world.proofs.UpdateLemmas.{begun_on, dropped_on, stored_on, tested_on, begins_on}
use Rattle.cfi_world.proofs.WorldLemmas.{turn_kept}

pub self : (t : Tables) → GoesOn t t
self t = record {
  code_words = refl;
  versions = refl;
  first = refl;
  longer = omega arith;
  entries = λ number within. refl;
  force = omega arith;
}

either_on : (t : Tables) (b : Bool) (x y : Turn) → GoesOn t x.world.tables → GoesOn t y.world.tables
    → GoesOn t (cond b x y).world.tables
either_on t true x y one other = one
either_on t false x y one other = other

either_tables : (t : Tables) (b : Bool) (x y : Tables) → GoesOn t x → GoesOn t y → GoesOn t (cond b x y)
either_tables t true x y one other = one
either_tables t false x y one other = other

module _ (w : World) (is : IsWorld w) where
  abbrev t : Tables
  t = w.tables

  guest_on : (guest : ℕ) (o : Option Raw) → GoesOn t (guest_turn w guest o).world.tables
  guest_on guest None = self t
  guest_on guest (Some r) = either_on t _ _ _ (self t) (self t)

  begin_on : (image : Option Image) → GoesOn t (begin_turn w image).world.tables
  begin_on image =
      either_on t (is_idle (phase_of t)) _ _
      (either_on t (epoch_in_force t == MAX_EPOCH) _ _ (self t) (begun_on t is.tables image)) (self t)

  passed_on : (asked : Option Entry) → t.asked ≡ asked → GoesOn t (passed_by asked t)
  passed_on None e = self t
  passed_on (Some entry) e =
      either_tables t (nat_lt (t.tested + 1) GUESTS) _ _ (tested_on t is.tables entry e) (begins_on t is.tables entry e)

  refused_on : (guest : ℕ) (quiet : Quiet) → GoesOn t (refused w guest quiet).world.tables
  refused_on guest Unregistered = self t
  refused_on guest Parked = self t
  refused_on guest (Published quiet) = dropped_on t is.tables

  update_on : (phase : Phase) → GoesOn t (update_turn w phase).world.tables
  update_on phases.Idle = self t
  update_on (phases.Testing guest) =
      either_on t (admits t.versions (next_epoch t) (quiet_of w guest)) _ _ (passed_on t.asked refl)
      (refused_on guest (quiet_of w guest))
  update_on (phases.Code index) = stored_on t is.tables
  update_on (phases.Tary index) = stored_on t is.tables
  update_on phases.Epoch = stored_on t is.tables
  update_on (phases.Bary slot) = stored_on t is.tables

  answer_on : (guest : ℕ) (reply : Reply) (o : Option Raw) → GoesOn t (answer_turn w guest reply o).world.tables
  answer_on guest reply None = self t
  answer_on guest reply (Some r) = either_on t _ _ _ (self t) (self t)

  release_on : (guest : ℕ) (o : Option Raw) → GoesOn t (release_turn w guest o).world.tables
  release_on guest None = self t
  release_on guest (Some r) = either_on t _ _ _ (self t) (self t)

  pub turn_on : (event : Event) → GoesOn t (turn_of w event).world.tables
  turn_on (events.Guest guest) = guest_on guest (slice_get w.guests guest)
  turn_on (events.Begin image) = begin_on image
  turn_on events.Update = update_on (phase_of t)
  turn_on (events.Answer guest answer) = answer_on guest (reply_in answer) (slice_get w.guests guest)
  turn_on (events.Release guest) = release_on guest (slice_get w.guests guest)

pub force_stays : (w : World) (is : IsWorld w) (event : Event) → MayTurn w event
    → (epoch_in_force w.tables ≤ epoch_in_force (turn_of w event).world.tables)
    × (policy_in_force w.tables ≤ policy_in_force (turn_of w event).world.tables)
force_stays w is event may =
    let later = (turn_kept w is event may).tables in
    let on = turn_on w is event in (
      force_rises w.tables (turn_of w event).world.tables is.tables later on,
      policy_rises w.tables (turn_of w event).world.tables is.tables later on,
    )

pub bary_load : (t : Tables) → IsTables t → (slot : ℕ) → slot < slots_of t.code_words → IsBaryLoad t slot
bary_load t is slot inside = record {
  settled = (bary_epoch t is slot).0;
  unfinished = λ early.
      let epoch = bary_epoch_is t is slot in
      elim (number_cases t (Bary slot)) [
        | inl new ↦ absurd (omega (arith, new.1, epoch, early, is.some))
        | inr old ↦ elim (cases_lt t.stored (stores_of t.code_words)) [
          | inl less ↦ less
          | inr all ↦ absurd (omega (arith, old.0, inside, all))
        ]
      ];
}

pub tary_load : (t : Tables) → IsTables t → (address : ℕ) → IsTaryLoad t address
tary_load t is address =
    let index : ℕ = tary_index t.code_words address in
    record {
      settled = (tary_epoch t is index (index_within t is address)).0;
      begun = λ late.
          let epoch = tary_epoch_is t is index in
          let force = force_epoch t is in
          elim (number_cases t (Tary index)) [
            | inl new ↦ omega (arith, new.0)
            | inr old ↦ elim (number_cases t Epoch) [
              | inl newer ↦ absurd (omega (arith, late, epoch, force, old.1, newer.1))
              | inr older ↦ absurd (omega (arith, late, epoch, force, old.1, older.1))
            ]
          ];
    }

-- the pick of a guest that keeps a Bary word
pub picks : (w : World) (is : IsWorld w) (guest : ℕ) (r : Raw) → slice_get w.guests guest ≡ Some r
    → r.base.stop ≡ None → (kept address : ℕ) → r.bary ≡ Some kept
    → epoch_in kept % w.tables.versions
    ≡ epoch_in (word_at w.tables (Tary (tary_index w.tables.code_words address))) % w.tables.versions
    → (epoch_in kept ≡ epoch_in (word_at w.tables (Tary (tary_index w.tables.code_words address))))
    × (epoch_in (word_at w.tables (Tary (tary_index w.tables.code_words address))) ≡ epoch_in_force w.tables)
picks w is guest r here going kept address keeps same =
    let t : Tables = w.tables in
    let index : ℕ = tary_index t.code_words address in
    let epoch = tary_epoch t is.tables index (index_within t is.tables address) in
    let s : Seat = seat_of w guest r in
    let running = is.running guest r here in
    let outside = keeps_outside (history_of t) (code_in_force t) (history_is t is.tables) t running.retries
    running.shown s running.runs going (is.seats guest r here).point kept keeps in
    let told = has_published t guest s (quiet_of w guest) running.quiet going outside in
    let since = told.since.kept kept keeps in
    let one = fair_word t is.tables guest r told.epoch kept (word_at t (Tary index)) told.since since epoch.0 epoch.1
    same in
    (one, omega (arith, one, since.most, epoch.0))
