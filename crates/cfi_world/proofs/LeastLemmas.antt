-- The words of all lesser guests have let an update go on that a guest refuses.
use Rattle.std.proofs.Common.{◌≡◌, ℕ, zero, suc, ◌+◌, ◌<◌, ◌≤◌, ◌==◌, nat_lt, cond, Bool, true, false, List, length, ◌∷◌, [], ◌++◌, slice_get, Option, Some, None, ◌⊎◌, inl, inr, refl, sym, ap, ◌∙◌, subst, arith}
use Rattle.std.proofs.Math.Seq.{take-length}
use Rattle.std.proofs.lemmas.Bool.{cases_eq}
use Rattle.cfi_word.specs.declared.lists.Image.{Image}
use Rattle.cfi_word.specs.declared.limits.TheConstants.{GUESTS, MAX_EPOCH}
use Rattle.cfi_model.specs.declared.history.Entry.{Entry}
use Rattle.cfi_model.specs.declared.phase.Phase.{Phase}
use Rattle.cfi_model.specs.declared.phase.Phase.TheVariants as phases
use Rattle.cfi_model.specs.declared.quiet.Quiet.{Quiet}
use Rattle.cfi_model.specs.declared.quiet.Quiet.TheVariants.{Unregistered, Parked, Published}
use Rattle.cfi_model.specs.Phases.{phase_after, phase_by, phase_of}
use Rattle.cfi_model.specs.Quiet.{admits}
use Rattle.cfi_model.specs.Words.{Tables, epoch_in_force, next_epoch}
use Rattle.cfi_model.specs.World.{World, quiet_of}
use Rattle.cfi_model.proofs.PhaseLemmas.{phase_row}
use Rattle.cfi_world.specs.Laws.{MayTurns, world_after}
use Rattle.cfi_world.specs.Moments.{world_at}
use Rattle.cfi_world.specs.Outcomes.{IsTestPast, TheLeastRefuses}
use Rattle.cfi_world.specs.Turns.{did, nothing, passed_turn, refused, update_turn}
use Rattle.cfi_world.specs.Updates.{at_store, begun, is_idle, passed_by}
use Rattle.cfi_world.specs.Worlds.{IsWorld}
use Rattle.cfi_world.specs.declared.event.Event.{Event}
use Rattle.cfi_world.specs.declared.event.Event.TheVariants as events
use Rattle.cfi_world.specs.declared.event.Turned.TheVariants.{EpochsSpent}
use Rattle.cfi_world.proofs.ChoiceLemmas.{row_none}
use Rattle.cfi_world.proofs.MomentLemmas.{next_world, past_world, world_is}
use Rattle.cfi_world.proofs.OthersLemmas.{only_updates}
use Rattle.cfi_world.proofs.WorldLemmas.{testing_is}

-- the guest whose word is tested next
abbrev pub Tests : Tables → (guest : ℕ) → Type 0
Tests t guest = phase_of t ≡ phases.Testing guest

-- no test is under way where no update is asked for
pub no_test : (t : Tables) → t.asked ≡ None → (guest : ℕ) → Tests t guest → ⊥
no_test t none guest tests =
    row_none t.code_words t.stored (phase_after t.code_words t.stored) guest (phase_row t.code_words t.stored)
    (ap (λ o. phase_by o t.tested t.code_words t.stored) (sym none) ∙ tests)

-- a test goes on to a guest as it was, or the word of the guest before has let it go on
module _ (w : World) (is : IsWorld w) where
  abbrev t : Tables
  t = w.tables

  pub record LetsNext (guest : ℕ) : Type 0 where
    pub before : ℕ
    pub tests : Tests t before
    pub one : guest ≡ before + 1
    pub lets : admits t.versions (next_epoch t) (quiet_of w before) ≡ true

  abbrev Comes : (guest : ℕ) → Type 0
  Comes guest = Tests t guest ⊎ LetsNext guest

  pub is_tested : (guest : ℕ) → Tests t guest → guest ≡ t.tested
  is_tested guest tests = testing_is w is t.asked t.tested t.code_words t.stored guest tests

  passed_comes : (asked : Option Entry) → t.asked ≡ asked → (before : ℕ) → Tests t before
      → admits t.versions (next_epoch t) (quiet_of w before) ≡ true → (guest : ℕ)
      → Tests (passed_by asked t) guest → Comes guest
  passed_comes None none before tests lets guest next = inl next
  passed_comes (Some entry) some before tests lets guest next = by (nat_lt (t.tested + 1) GUESTS) next
    where
      by : (more : Bool)
          → Tests (cond more (record t { tested = t.tested + 1 }) (at_store 0
          (record t { entries = t.entries ++ entry ∷ []; stored = 0; asked = None; tested = 0 }))) guest
          → Comes guest
      by true on =
          let here = testing_is w is t.asked (t.tested + 1) t.code_words t.stored guest on in
          let last = is_tested before tests in
          inr (record { before = before; tests = tests; one = omega (arith, here, last); lets = lets })
      by false on =
          absurd (no_test (at_store 0
          (record t { entries = t.entries ++ entry ∷ []; stored = 0; asked = None; tested = 0 })) refl guest on)

  refused_comes : (quiet : Quiet) (before guest : ℕ) → Tests (refused w before quiet).world.tables guest → Comes guest
  refused_comes Unregistered before guest next = inl next
  refused_comes Parked before guest next = inl next
  refused_comes (Published quiet) before guest next =
      absurd (no_test (refused w before (Published quiet)).world.tables refl guest next)

  tested_comes : (before guest : ℕ) → Tests t before → (lets : Bool)
      → admits t.versions (next_epoch t) (quiet_of w before) ≡ lets
      → Tests (cond lets (passed_turn w) (refused w before (quiet_of w before))).world.tables guest → Comes guest
  tested_comes before guest tests true lets next = passed_comes t.asked refl before tests lets guest next
  tested_comes before guest tests false lets next = refused_comes (quiet_of w before) before guest next

  -- a store
  stores_comes : (next : ℕ) → (asked : Option Entry) → t.asked ≡ asked → (phase : Phase) → phase_of t ≡ phase
      → ((guest : ℕ) → phase ≡ phases.Testing guest → ⊥) → (guest : ℕ)
      → phase_by asked t.tested t.code_words next ≡ phases.Testing guest → ⊥
  stores_comes next None none phase at other guest tests =
      row_none t.code_words next (phase_after t.code_words next) guest (phase_row t.code_words next) tests
  stores_comes next (Some entry) some phase at other guest tests =
      other t.tested (sym at ∙ ap (λ o. phase_by o t.tested t.code_words t.stored) some)

  pub update_comes : (phase : Phase) → phase_of t ≡ phase → (guest : ℕ) → Tests (update_turn w phase).world.tables guest
      → Comes guest
  update_comes phases.Idle at guest next = inl next
  update_comes (phases.Testing before) at guest next =
      tested_comes before guest at (admits t.versions (next_epoch t) (quiet_of w before)) refl next
  update_comes (phases.Code index) at guest next =
      absurd (stores_comes _ t.asked refl (phases.Code index) at (λ g e. absurd (cc)) guest next)
  update_comes (phases.Tary index) at guest next =
      absurd (stores_comes _ t.asked refl (phases.Tary index) at (λ g e. absurd (cc)) guest next)
  update_comes phases.Epoch at guest next =
      absurd (stores_comes _ t.asked refl phases.Epoch at (λ g e. absurd (cc)) guest next)
  update_comes (phases.Bary slot) at guest next =
      absurd (stores_comes _ t.asked refl (phases.Bary slot) at (λ g e. absurd (cc)) guest next)

  -- an update that begins tests the first guest
  pub begin_comes : (image : Option Image) (idle spent : Bool) (guest : ℕ)
      → Tests (cond idle (cond spent (record { world = w; answer = EpochsSpent })
      (did (record w { tables = begun image t; updates = w.updates + 1 }))) (nothing w)).world.tables guest
      → Tests t guest ⊎ (guest ≡ 0)
  begin_comes image false spent guest next = inl next
  begin_comes image true true guest next = inl next
  begin_comes image true false guest next = inr (first next)
    where
      first : phases.Testing 0 ≡ phases.Testing guest → guest ≡ 0
      first e = cc

-- ---- over a run

module _ (w : World) (is : IsWorld w) (idle : phase_of w.tables ≡ phases.Idle) (run : List Event) (may : MayTurns w run)
  where
    abbrev at : (moment : ℕ) → World
    at moment = world_at w run moment

    -- by a moment a word has let the update go on that is under way there
    pub record HasLetBy (now guest : ℕ) : Type 0 where
      pub moment : ℕ
      pub past : moment < now
      pub event : slice_get run moment ≡ Some events.Update
      pub tests : Tests (at moment).tables guest
      pub lets : admits (at moment).tables.versions (next_epoch (at moment).tables) (quiet_of (at moment) guest) ≡ true
      pub since : (later : ℕ) → moment < later → later ≤ now → IsTestPast guest (phase_of (at later).tables)

    abbrev AllLet : (now : ℕ) → Type 0
    AllLet now = (guest : ℕ) → Tests (at now).tables guest → (other : ℕ) → other < guest → HasLetBy now other

    is_past : (guest other : ℕ) (phase : Phase) → phase ≡ phases.Testing guest → other < guest
        → IsTestPast other phase
    is_past guest other phase tests less = subst (IsTestPast other) (sym tests) less

    -- one moment more, where the test is under way still
    more : (now guest other : ℕ) → HasLetBy now other → Tests (at (now + 1)).tables guest → other < guest
        → HasLetBy (now + 1) other
    more now guest other has tests less =
        let before = has.past in
        record {
          moment = has.moment;
          past = omega (arith, before);
          event = has.event;
          tests = has.tests;
          lets = has.lets;
          since = λ later after until. elim (cases_eq later (now + 1)) [
            | inl last ↦
                subst (λ k. IsTestPast other (phase_of (at k).tables)) (sym last)
                (is_past guest other (phase_of (at (now + 1)).tables) tests less)
            | inr earlier ↦ has.since later after (omega (arith, until, earlier))
          ];
        }

    stays : (now : ℕ) → AllLet now → (guest : ℕ) → Tests (at now).tables guest → Tests (at (now + 1)).tables guest
        → (other : ℕ) → other < guest → HasLetBy (now + 1) other
    stays now all guest before tests other less = more now guest other (all guest before other less) tests less

    moves : (now : ℕ) → AllLet now → slice_get run now ≡ Some events.Update → (guest : ℕ)
        → Tests (at (now + 1)).tables guest → LetsNext (at now) (world_is w is run may now) guest
        → (other : ℕ) → other < guest → HasLetBy (now + 1) other
    moves now all event guest tests lets other less = elim (cases_eq other lets.before) [
      | inl last ↦ subst (HasLetBy (now + 1)) (sym last) (record {
        moment = now;
        past = omega arith;
        event = event;
        tests = lets.tests;
        lets = lets.lets;
        since = λ later after until.
            let here : now + 1 ≡ later = omega (arith, after, until) in
            subst (λ k. IsTestPast lets.before (phase_of (at k).tables)) here
            (is_past guest lets.before (phase_of (at (now + 1)).tables) tests (omega (arith, last, less)));
      })
      | inr earlier ↦
          let one = lets.one in
          more now guest other (all lets.before lets.tests other (omega (arith, one, less, earlier))) tests less
    ]

    kept : (now : ℕ) → AllLet now → (at (now + 1)).tables ≡ (at now).tables → AllLet (now + 1)
    kept now all same guest tests other less =
        stays now all guest (subst (λ (t : Tables). Tests t guest) same tests) tests other less

    next_by : (now : ℕ) → AllLet now → (o : Option Event) → slice_get run now ≡ o → AllLet (now + 1)
    next_by now all None none = kept now all (ap (λ v. v.tables) (past_world w run now none))
    next_by now all (Some (events.Guest guest)) event =
        kept now all (ap (λ v. v.tables) (next_world w run now (events.Guest guest) event)
        ∙ only_updates (at now) (events.Guest guest) (λ none. none))
    next_by now all (Some (events.Answer guest answer)) event =
        kept now all (ap (λ v. v.tables) (next_world w run now (events.Answer guest answer) event)
        ∙ only_updates (at now) (events.Answer guest answer) (λ none. none))
    next_by now all (Some (events.Release guest)) event =
        kept now all (ap (λ v. v.tables) (next_world w run now (events.Release guest) event)
        ∙ only_updates (at now) (events.Release guest) (λ none. none))
    next_by now all (Some (events.Begin image)) event = λ guest tests other less.
        let after =
        subst (λ (v : World). Tests v.tables guest) (next_world w run now (events.Begin image) event) tests in
        elim (begin_comes (at now) (world_is w is run may now) image (is_idle (phase_of (at now).tables))
        (epoch_in_force (at now).tables == MAX_EPOCH) guest after) [
          | inl before ↦ stays now all guest before tests other less
          | inr first ↦ absurd (omega (arith, first, less))
        ]
    next_by now all (Some events.Update) event = λ guest tests other less.
        let after = subst (λ (v : World). Tests v.tables guest) (next_world w run now events.Update event) tests in
        elim (update_comes (at now) (world_is w is run may now) (phase_of (at now).tables) refl guest after) [
          | inl before ↦ stays now all guest before tests other less
          | inr lets ↦ moves now all event guest tests lets other less
        ]

    all_let : (now : ℕ) → AllLet now
    all_let zero = λ guest tests other less. absurd (never guest (sym idle ∙ tests))
      where
        never : (guest : ℕ) → phases.Idle ≡ phases.Testing guest → ⊥
        never guest e = absurd (cc)
    all_let (suc now) =
        let same : now + 1 ≡ suc now = omega arith in
        subst AllLet same (next_by now (all_let now) (slice_get run now) refl)

pub the_least_refuses : TheLeastRefuses
the_least_refuses w is idle run may guest quiet refusal other less =
    let end : world_at w run (length run) ≡ world_after w run = ap (λ list. world_after w list) (take-length run) in
    let has = all_let w is idle run may (length run) guest
    (ap (λ (v : World). phase_of v.tables) end ∙ refusal.tests) other less in
    record {
      moment = has.moment;
      epoch = next_epoch (world_at w run has.moment).tables;
      passes = record { event = has.event; tests = has.tests; epoch_is = refl; lets = has.lets };
      since = has.since;
    }
