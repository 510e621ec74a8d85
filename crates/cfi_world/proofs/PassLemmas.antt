-- What an event makes of the test of an update, and of the epoch to come.
use Rattle.std.proofs.Common.{◌≡◌, ℕ, ◌+◌, ◌≤◌, ◌==◌, nat_lt, cond, Bool, true, false, length, length-append, [], ◌∷◌, ◌++◌, Option, Some, None, ◌⊎◌, inl, inr, refl, sym, ap, ◌∙◌, subst, arith, rules}
use Rattle.cfi_word.specs.declared.lists.Image.{Image}
use Rattle.cfi_word.specs.declared.limits.TheConstants.{GUESTS, MAX_EPOCH}
use Rattle.cfi_model.specs.declared.history.Entry.{Entry}
use Rattle.cfi_model.specs.declared.phase.Phase.{Phase}
use Rattle.cfi_model.specs.declared.phase.Phase.TheVariants as phases
use Rattle.cfi_model.specs.declared.quiet.Quiet.{Quiet}
use Rattle.cfi_model.specs.declared.quiet.Quiet.TheVariants.{Unregistered, Parked, Published}
use Rattle.cfi_model.specs.Phases.{phase_by, phase_of}
use Rattle.cfi_model.specs.Quiet.{admits}
use Rattle.cfi_model.specs.Words.{Tables, epoch_in_force, next_epoch}
use Rattle.cfi_model.specs.World.{World, quiet_of}
use Rattle.cfi_world.specs.Turns.{did, nothing, passed_turn, refused, turn_of, update_turn}
use Rattle.cfi_world.specs.Updates.{at_store, begun, is_idle, passed_by}
use Rattle.cfi_world.specs.Worlds.{IsWorld, settled_epoch}
use Rattle.cfi_world.specs.declared.event.Event.{Event}
use Rattle.cfi_world.specs.declared.event.Event.TheVariants as events
use Rattle.cfi_world.specs.declared.event.Turned.TheVariants.{EpochsSpent}
use Rattle.cfi_world.proofs.LeastLemmas.{Tests, begin_comes, is_tested, no_test}
use Rattle.cfi_world.proofs.OthersLemmas.{only_updates}
use Rattle.cfi_world.proofs.SettledLemmas.{settled_rises}
use Rattle.cfi_world.proofs.WorldLemmas.{testing_is}

-- ---- the settled epoch never falls

either_settles : (least : ℕ) (b : Bool) (x y : Tables) → least ≤ settled_epoch x → least ≤ settled_epoch y
    → least ≤ settled_epoch (cond b x y)
either_settles least true x y one other = one
either_settles least false x y one other = other

module _ (w : World) (is : IsWorld w) where
  abbrev t : Tables
  t = w.tables

  -- with one entry more, of which nothing is stored
  abbrev longer : Entry → Tables
  longer entry = at_store 0 (record t { entries = t.entries ++ entry ∷ []; stored = 0; asked = None; tested = 0 })

  longer_next : (entry : Entry) → next_epoch (longer entry) ≡ next_epoch t + 1
  longer_next entry =
      let long = length-append t.entries (entry ∷ []) in
      omega (arith, long)

  passed_settles : (asked : Option Entry) → settled_epoch t ≤ settled_epoch (passed_by asked t)
  passed_settles None = omega arith
  passed_settles (Some entry) =
      let next = longer_next entry in
      either_settles (settled_epoch t) (nat_lt (t.tested + 1) GUESTS) (record t { tested = t.tested + 1 })
      (longer entry) (omega arith) (settled_rises t (longer entry) refl (λ few. inl (omega (arith, next))) (omega (arith, next)))

  refused_settles : (guest : ℕ) (quiet : Quiet) → settled_epoch t ≤ settled_epoch (refused w guest quiet).world.tables
  refused_settles guest Unregistered = omega arith
  refused_settles guest Parked = omega arith
  refused_settles guest (Published quiet) = omega arith

  tested_settles : (guest : ℕ) (lets : Bool)
      → settled_epoch t ≤ settled_epoch (cond lets (passed_turn w) (refused w guest (quiet_of w guest))).world.tables
  tested_settles guest true = passed_settles t.asked
  tested_settles guest false = refused_settles guest (quiet_of w guest)

  store_settles : settled_epoch t ≤ settled_epoch (at_store (t.stored + 1) t)
  store_settles = settled_rises t (at_store (t.stored + 1) t) refl (λ few. inr (omega arith)) (omega arith)

  update_settles : (phase : Phase) → settled_epoch t ≤ settled_epoch (update_turn w phase).world.tables
  update_settles phases.Idle = omega arith
  update_settles (phases.Testing guest) = tested_settles guest (admits t.versions (next_epoch t) (quiet_of w guest))
  update_settles (phases.Code next) = store_settles
  update_settles (phases.Tary next) = store_settles
  update_settles phases.Epoch = store_settles
  update_settles (phases.Bary next) = store_settles

  begin_settles : (image : Option Image) (idle spent : Bool)
      → settled_epoch t ≤ settled_epoch (cond idle (cond spent (record { world = w; answer = EpochsSpent })
      (did (record w { tables = begun image t; updates = w.updates + 1 }))) (nothing w)).world.tables
  begin_settles image false spent = omega arith
  begin_settles image true true = omega arith
  begin_settles image true false = omega arith

  same_settles : (u : Tables) → u ≡ t → settled_epoch t ≤ settled_epoch u
  same_settles u same = subst (λ (v : Tables). settled_epoch t ≤ settled_epoch v) (sym same) (omega arith)

  pub turn_settles : (event : Event) → settled_epoch t ≤ settled_epoch (turn_of w event).world.tables
  turn_settles (events.Guest guest) =
      same_settles (turn_of w (events.Guest guest)).world.tables (only_updates w (events.Guest guest) (λ none. none))
  turn_settles (events.Begin image) =
      begin_settles image (is_idle (phase_of t)) (epoch_in_force t == MAX_EPOCH)
  turn_settles events.Update = update_settles (phase_of t)
  turn_settles (events.Answer guest answer) =
      same_settles (turn_of w (events.Answer guest answer)).world.tables
      (only_updates w (events.Answer guest answer) (λ none. none))
  turn_settles (events.Release guest) =
      same_settles (turn_of w (events.Release guest)).world.tables
      (only_updates w (events.Release guest) (λ none. none))

  -- ---- an event passes the test of a guest's word, or no test

  -- the next guest is tested then, or after the last one there is one entry more
  abbrev pub GoesOnTo : (guest : ℕ) → Tables → Type 0
  GoesOnTo guest u =
      ((next_epoch u ≡ next_epoch t) × ((other : ℕ) → Tests u other → other ≡ guest + 1))
      ⊎ ((next_epoch u ≡ next_epoch t + 1) × (GUESTS ≤ guest + 1) × ((other : ℕ) → Tests u other → ⊥))

  pub record PassesTest (event : Event) (u : Tables) : Type 0 where
    pub guest : ℕ
    pub update : event ≡ events.Update
    pub tests : Tests t guest
    pub lets : admits t.versions (next_epoch t) (quiet_of w guest) ≡ true
    pub next : GoesOnTo guest u

  pub record PassesNone (event : Event) (u : Tables) : Type 0 where
    pub same : next_epoch u ≡ next_epoch t
    pub before : (guest : ℕ) → Tests u guest → Tests t guest ⊎ (guest ≡ 0)
    pub none : (guest : ℕ) → event ≡ events.Update → Tests t guest
        → admits t.versions (next_epoch t) (quiet_of w guest) ≡ true → ⊥

  abbrev pub Passing : Event → Tables → Type 0
  Passing event u = PassesTest event u ⊎ PassesNone event u

  one_guest : (guest other : ℕ) → Tests t guest → Tests t other → other ≡ guest
  one_guest guest other one two = is_tested w is other two ∙ sym (is_tested w is guest one)

  passes_by : (guest : ℕ) → Tests t guest → admits t.versions (next_epoch t) (quiet_of w guest) ≡ true
      → (asked : Option Entry) → t.asked ≡ asked → PassesTest events.Update (passed_by asked t)
  passes_by guest tests lets None none = absurd (no_test t none guest tests)
  passes_by guest tests lets (Some entry) some =
      record {
        guest = guest;
        update = refl;
        tests = tests;
        lets = lets;
        next = next (nat_lt (t.tested + 1) GUESTS) refl;
      }
    where
      next : (more : Bool) → nat_lt (t.tested + 1) GUESTS ≡ more
          → GoesOnTo guest (cond more (record t { tested = t.tested + 1 }) (longer entry))
      next true more = inl (
        refl,
        λ other on.
            let here = testing_is w is t.asked (t.tested + 1) t.code_words t.stored other on in
            let last = is_tested w is guest tests in
            omega (arith, here, last),
      )
      next false more =
          let last : GUESTS ≤ t.tested + 1 = search (rules, arith) in
          let here = is_tested w is guest tests in
          inr (longer_next entry, omega (arith, last, here), λ other on. no_test (longer entry) refl other on)

  -- a refused update leaves no test
  refused_none : (guest : ℕ) (quiet : Quiet) → quiet_of w guest ≡ quiet → Tests t guest
      → admits t.versions (next_epoch t) (quiet_of w guest) ≡ false
      → PassesNone events.Update (refused w guest quiet).world.tables
  refused_none guest quiet told tests refuses = record {
    same = same quiet;
    before = before quiet;
    none = λ other update on lets.
        let one = one_guest guest other tests on in
        let here : admits t.versions (next_epoch t) (quiet_of w guest) ≡ true =
        subst (λ g. admits t.versions (next_epoch t) (quiet_of w g) ≡ true) one lets in
        absurd (cc);
  }
    where
      same : (quiet : Quiet) → next_epoch (refused w guest quiet).world.tables ≡ next_epoch t
      same Unregistered = refl
      same Parked = refl
      same (Published epoch) = refl

      before : (quiet : Quiet) (other : ℕ) → Tests (refused w guest quiet).world.tables other
          → Tests t other ⊎ (other ≡ 0)
      before Unregistered other on = inl on
      before Parked other on = inl on
      before (Published epoch) other on =
          absurd (no_test (refused w guest (Published epoch)).world.tables refl other on)

  tested_passes : (guest : ℕ) → Tests t guest → (lets : Bool)
      → admits t.versions (next_epoch t) (quiet_of w guest) ≡ lets
      → Passing events.Update (cond lets (passed_turn w) (refused w guest (quiet_of w guest))).world.tables
  tested_passes guest tests true lets = inl (passes_by guest tests lets t.asked refl)
  tested_passes guest tests false lets = inr (refused_none guest (quiet_of w guest) refl tests lets)

  -- nor does a store
  untested : (phase : Phase) → phase_of t ≡ phase → ((guest : ℕ) → phase ≡ phases.Testing guest → ⊥)
      → (u : Tables) → u.entries ≡ t.entries → u.first ≡ t.first → u.asked ≡ t.asked → PassesNone events.Update u
  untested phase at other u entries first asked = record {
    same = omega (arith, ap length entries, first);
    before = λ guest on. absurd (by guest on u.asked refl);
    none = λ guest update on lets. other guest (sym at ∙ on);
  }
    where
      by : (guest : ℕ) → Tests u guest → (o : Option Entry) → u.asked ≡ o → ⊥
      by guest on None none = no_test u none guest on
      by guest on (Some entry) some =
          other t.tested (sym at ∙ ap (λ o. phase_by o t.tested t.code_words t.stored) (sym asked ∙ some))

  update_passes : (phase : Phase) → phase_of t ≡ phase → Passing events.Update (update_turn w phase).world.tables
  update_passes phases.Idle at = inr (untested phases.Idle at (λ g e. absurd (cc)) t refl refl refl)
  update_passes (phases.Testing guest) at =
      tested_passes guest at (admits t.versions (next_epoch t) (quiet_of w guest)) refl
  update_passes (phases.Code index) at =
      inr (untested (phases.Code index) at (λ g e. absurd (cc)) (at_store (t.stored + 1) t) refl refl refl)
  update_passes (phases.Tary index) at =
      inr (untested (phases.Tary index) at (λ g e. absurd (cc)) (at_store (t.stored + 1) t) refl refl refl)
  update_passes phases.Epoch at =
      inr (untested phases.Epoch at (λ g e. absurd (cc)) (at_store (t.stored + 1) t) refl refl refl)
  update_passes (phases.Bary slot) at =
      inr (untested (phases.Bary slot) at (λ g e. absurd (cc)) (at_store (t.stored + 1) t) refl refl refl)

  begin_same : (image : Option Image) (idle spent : Bool)
      → next_epoch (cond idle (cond spent (record { world = w; answer = EpochsSpent })
      (did (record w { tables = begun image t; updates = w.updates + 1 }))) (nothing w)).world.tables ≡ next_epoch t
  begin_same image false spent = refl
  begin_same image true true = refl
  begin_same image true false = refl

  kept_passes : (event : Event) (u : Tables) → u ≡ t → (event ≡ events.Update → ⊥) → Passing event u
  kept_passes event u same other = inr (record {
    same = ap next_epoch same;
    before = λ guest on. inl (subst (λ (v : Tables). Tests v guest) same on);
    none = λ guest update on lets. other update;
  })

  pub turn_passes : (event : Event) → Passing event (turn_of w event).world.tables
  turn_passes (events.Guest guest) =
      kept_passes (events.Guest guest) (turn_of w (events.Guest guest)).world.tables
      (only_updates w (events.Guest guest) (λ none. none)) (λ e. absurd (cc))
  turn_passes (events.Begin image) = inr (record {
    same = begin_same image (is_idle (phase_of t)) (epoch_in_force t == MAX_EPOCH);
    before = λ guest on.
        begin_comes w is image (is_idle (phase_of t)) (epoch_in_force t == MAX_EPOCH) guest on;
    none = λ guest update on lets. absurd (cc);
  })
  turn_passes events.Update = update_passes (phase_of t) refl
  turn_passes (events.Answer guest answer) =
      kept_passes (events.Answer guest answer) (turn_of w (events.Answer guest answer)).world.tables
      (only_updates w (events.Answer guest answer) (λ none. none)) (λ e. absurd (cc))
  turn_passes (events.Release guest) =
      kept_passes (events.Release guest) (turn_of w (events.Release guest)).world.tables
      (only_updates w (events.Release guest) (λ none. none)) (λ e. absurd (cc))
