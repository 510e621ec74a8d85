-- The last update that has passed a guest's QUIET word.
use Rattle.std.proofs.Common.{◌≡◌, ◌≢◌, ℕ, zero, suc, ◌+◌, ◌<◌, ◌≤◌, List, true, slice_get, Option, Some, None, ◌⊎◌, inl, inr, refl, sym, ap, ◌∙◌, subst, arith}
use Rattle.std.proofs.lemmas.Bool.{cases_eq, cases_lt}
use Rattle.cfi_word.specs.declared.limits.TheConstants.{GUESTS}
use Rattle.cfi_model.specs.declared.phase.Phase.TheVariants as phases
use Rattle.cfi_model.specs.declared.quiet.Quiet.TheVariants.{Unregistered, Published}
use Rattle.cfi_model.specs.Phases.{phase_of}
use Rattle.cfi_model.specs.Quiet.{admits}
use Rattle.cfi_model.specs.Words.{Tables, next_epoch}
use Rattle.cfi_model.specs.World.{World, quiet_of}
use Rattle.cfi_world.specs.Bounds.{IsPassedLast}
use Rattle.cfi_world.specs.Laws.{MayTurns}
use Rattle.cfi_world.specs.Moments.{PassesAt, world_at}
use Rattle.cfi_world.specs.Turns.{turn_of}
use Rattle.cfi_world.specs.Worlds.{IsWorld}
use Rattle.cfi_world.specs.declared.event.Event.{Event}
use Rattle.cfi_world.specs.declared.event.Event.TheVariants as events
use Rattle.cfi_world.proofs.LeastLemmas.{Tests, is_tested}
use Rattle.cfi_world.proofs.MomentLemmas.{next_world, past_world, world_is}
use Rattle.cfi_world.proofs.PassLemmas.{GoesOnTo, PassesNone, PassesTest, Passing, turn_passes}

-- what a world is at its opening
pub record IsFirst (w : World) : Type 0 where
  pub first : w.tables.first + 1 ≡ next_epoch w.tables
  pub idle : phase_of w.tables ≡ phases.Idle
  pub quiets : (guest : ℕ) → (quiet_of w guest ≡ Unregistered) ⊎ (quiet_of w guest ≡ Published w.tables.first)

module _ (w : World) (is : IsWorld w) (opening : IsFirst w) (run : List Event) (may : MayTurns w run) (guest : ℕ)
    (few : guest < GUESTS) where
  abbrev at : (moment : ℕ) → World
  at moment = world_at w run moment

  at_is : (moment : ℕ) → IsWorld (at moment)
  at_is moment = world_is w is run may moment

  pub record Passed (now : ℕ) : Type 0 where
    pub epoch : ℕ
    pub last : IsPassedLast w run guest epoch now
    pub most : next_epoch (at now).tables ≤ epoch + 1
    pub under : (other : ℕ) → Tests (at now).tables other → guest < other → epoch ≡ next_epoch (at now).tables

  -- no test passes it with the next event
  more_last : (now epoch : ℕ) → ((other : ℕ) → PassesAt w run guest other now → ⊥) → IsPassedLast w run guest epoch now
      → IsPassedLast w run guest epoch (now + 1)
  more_last now epoch none (inl first) = inl (record {
    none = λ moment other before passes. elim (cases_lt moment now) [
      | inl earlier ↦ first.none moment other earlier passes
      | inr here ↦
          (let same : moment ≡ now = omega (arith, here, before) in
          none other (subst (PassesAt w run guest other) same passes))
    ];
    first = first.first;
  })
  more_last now epoch none (inr (test, last)) =
      let past = last.past in
      inr (
        test,
        record {
          passes = last.passes;
          past = omega (arith, past);
          last = λ later other after before passes. elim (cases_lt later now) [
            | inl earlier ↦ last.last later other after earlier passes
            | inr here ↦
                (let same : later ≡ now = omega (arith, here, before) in
                none other (subst (PassesAt w run guest other) same passes))
          ];
        },
      )

  never_passes : (now : ℕ) → slice_get run now ≡ None → (other : ℕ) → PassesAt w run guest other now → ⊥
  never_passes now none other passes = (let both = sym none ∙ passes.event in absurd (cc))

  event_is : (now : ℕ) (event : Event) → slice_get run now ≡ Some event → (other : ℕ)
      → PassesAt w run guest other now → event ≡ events.Update
  event_is now event here other passes = (let both = sym here ∙ passes.event in cc)

  module _ (now : ℕ) (before : Passed now) (event : Event) (here : slice_get run now ≡ Some event) where
    abbrev new : World
    new = (turn_of (at now) event).world

    abbrev PassedIn : World → Type 0
    PassedIn v =
        (epoch : ℕ) × IsPassedLast w run guest epoch (now + 1) × (next_epoch v.tables ≤ epoch + 1)
        × ((other : ℕ) → Tests v.tables other → guest < other → epoch ≡ next_epoch v.tables)

    none_in : PassesNone (at now) (at_is now) event new.tables → PassedIn new
    none_in none =
        let same = none.same in
        let most = before.most in (
          before.epoch,
          more_last now before.epoch
              (λ other passes. none.none guest (event_is now event here other passes) passes.tests
              (subst (λ e. admits (at now).tables.versions e (quiet_of (at now) guest) ≡ true) passes.epoch_is
              passes.lets)) before.last,
          omega (arith, same, most),
          λ other tests less. elim (none.before other tests) [
            | inl was ↦ before.under other was less ∙ sym same
            | inr first ↦ absurd (omega (arith, first, less))
          ],
        )

    -- the guest's own word passes
    own_in : (test : PassesTest (at now) (at_is now) event new.tables) → guest ≡ test.guest → PassedIn new
    own_in test same =
        let t : Tables = (at now).tables in (
          next_epoch t,
          inr (
            now,
            record {
              passes = record {
                event = here ∙ ap Some test.update;
                tests = subst (λ g. Tests t g) (sym same) test.tests;
                epoch_is = refl;
                lets = subst (λ g. admits t.versions (next_epoch t) (quiet_of (at now) g) ≡ true) (sym same) test.lets;
              };
              past = omega arith;
              last = λ later other after until. absurd (omega (arith, after, until));
            },
          ),
          most test.next,
          under test.next,
        )
      where
        most : GoesOnTo (at now) (at_is now) test.guest new.tables
            → next_epoch new.tables ≤ next_epoch (at now).tables + 1
        most (inl next) = (let one = next.0 in omega (arith, one))
        most (inr last) = (let one = last.0 in omega (arith, one))

        under : GoesOnTo (at now) (at_is now) test.guest new.tables → (other : ℕ) → Tests new.tables other
            → guest < other → next_epoch (at now).tables ≡ next_epoch new.tables
        under (inl next) other tests less = sym next.0
        under (inr last) other tests less = absurd (last.2 other tests)

    -- another guest's word passes
    other_in : (test : PassesTest (at now) (at_is now) event new.tables) → guest ≢ test.guest → PassedIn new
    other_in test apart = (
      before.epoch,
      more_last now before.epoch (λ other passes. apart (is_tested (at now) (at_is now) guest passes.tests ∙ sym turn))
          before.last,
      most test.next,
      under test.next,
    )
      where
        turn : test.guest ≡ (at now).tables.tested
        turn = is_tested (at now) (at_is now) test.guest test.tests

        most : GoesOnTo (at now) (at_is now) test.guest new.tables → next_epoch new.tables ≤ before.epoch + 1
        most (inl next) =
            let one = next.0 in
            let low = before.most in
            omega (arith, one, low)
        most (inr last) =
            let one = last.0 in
            let all = last.1 in
            let same = before.under test.guest test.tests (omega (arith, all, few, apart)) in
            omega (arith, one, same)

        under : GoesOnTo (at now) (at_is now) test.guest new.tables → (other : ℕ) → Tests new.tables other
            → guest < other → before.epoch ≡ next_epoch new.tables
        under (inl next) other tests less =
            let one = next.1 other tests in
            before.under test.guest test.tests (omega (arith, one, less, apart)) ∙ sym next.0
        under (inr last) other tests less = absurd (last.2 other tests)

    event_in : Passing (at now) (at_is now) event new.tables → PassedIn new
    event_in (inr none) = none_in none
    event_in (inl test) = elim (cases_eq guest test.guest) [
      | inl same ↦ own_in test same
      | inr apart ↦ other_in test apart
    ]

    event_passed : Passed (now + 1)
    event_passed =
        let all = subst PassedIn (sym (next_world w run now event here))
        (event_in (turn_passes (at now) (at_is now) event)) in
        record { epoch = all.0; last = all.1; most = all.2; under = all.3 }

  next_passed : (now : ℕ) → Passed now → (o : Option Event) → slice_get run now ≡ o → Passed (now + 1)
  next_passed now before (Some event) here = event_passed now before event here
  next_passed now before None none =
      let same : (at (now + 1)).tables ≡ (at now).tables = ap (λ v. v.tables) (past_world w run now none) in
      let next : next_epoch (at (now + 1)).tables ≡ next_epoch (at now).tables = ap next_epoch same in
      let most = before.most in
      record {
        epoch = before.epoch;
        last = more_last now before.epoch (never_passes now none) before.last;
        most = omega (arith, next, most);
        under = λ other tests less.
            before.under other (subst (λ (t : Tables). Tests t other) same tests) less ∙ sym next;
      }

  pub passed_at : (now : ℕ) → Passed now
  passed_at zero =
      let first = opening.first in
      record {
        epoch = w.tables.first;
        last = inl (record { none = λ moment other before passes. absurd (omega (arith, before)); first = refl });
        most = omega (arith, first);
        under = λ other tests less. absurd (never other (sym opening.idle ∙ tests));
      }
    where
      never : (other : ℕ) → phases.Idle ≡ phases.Testing other → ⊥
      never other e = absurd (cc)
  passed_at (suc now) =
      let same : now + 1 ≡ suc now = omega arith in
      subst Passed same (next_passed now (passed_at now) (slice_get run now) refl)
