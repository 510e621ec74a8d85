-- Updates are bounded by what each guest has published.
use Rattle.std.proofs.Common.{◌≡◌, ℕ, zero, suc, ◌+◌, ◌<◌, ◌≤◌, List, slice_get, Option, Some, None, ◌⊎◌, inl, inr, refl, sym, ◌∙◌, subst, arith}
use Rattle.std.proofs.lemmas.Bool.{cases_eq, cases_lt}
use Rattle.std.proofs.lemmas.Option.{slice_get_within}
use Rattle.cfi_word.specs.declared.limits.TheConstants.{GUESTS}
use Rattle.cfi_word.specs.Rank.{stores_of}
use Rattle.cfi_word.specs.Word.{epoch_in}
use Rattle.cfi_model.specs.declared.history.Entry.{Entry}
use Rattle.cfi_model.specs.declared.phase.Phase.{Phase}
use Rattle.cfi_model.specs.declared.phase.Phase.TheVariants as phases
use Rattle.cfi_model.specs.declared.quiet.Quiet.TheVariants.{Unregistered, Published}
use Rattle.cfi_model.specs.InForce.{tary_index}
use Rattle.cfi_model.specs.Phases.{phase_after}
use Rattle.cfi_model.specs.Raw.{Raw}
use Rattle.cfi_model.specs.Tables.{MayBeAsked}
use Rattle.cfi_model.specs.Words.{Tables, epoch_in_force}
use Rattle.cfi_model.specs.World.{World, opened_world, point_of, quiet_of}
use Rattle.cfi_model.proofs.InForceLemmas.{index_within, tary_epoch}
use Rattle.cfi_model.proofs.PhaseLemmas.{IsRow, phase_row}
use Rattle.cfi_model.proofs.TableLemmas.{force_epoch}
use Rattle.cfi_world.specs.Bounds.{IsBehind, IsBehindStore, IsBounded, IsPassedLast, IsWithin, StoresAt, UpdatesAreBounded}
use Rattle.cfi_world.specs.Checks.{tary_in}
use Rattle.cfi_world.specs.Laws.{MayTurns}
use Rattle.cfi_world.specs.Moments.{PassesAt, world_at}
use Rattle.cfi_world.specs.Worlds.{IsWorld, settled_epoch}
use Rattle.cfi_world.specs.declared.event.Event.{Event}
use Rattle.cfi_world.specs.declared.event.Event.TheVariants as events
use Rattle.cfi_world.proofs.LeastLemmas.{Tests, no_test}
use Rattle.cfi_world.proofs.MomentLemmas.{on_between, world_is}
use Rattle.cfi_world.proofs.OpeningLemmas.{absent_is, opened_is, quiet_is}
use Rattle.cfi_world.proofs.QuietLemmas.{IsNotBelow, by_guest, holds_from}
use Rattle.cfi_world.proofs.SettledLemmas.{settled_cases, settled_near}
use Rattle.cfi_world.proofs.WorldLemmas.{admits_by}
use Rattle.cfi_world.proofs.LastLemmas.{IsFirst, Passed, passed_at}
use Rattle.cfi_world.proofs.LoadedLemmas.{loaded_from, settles}
use Rattle.cfi_world.proofs.ToldLemmas.{Told, told_at}

-- no store is under way where a word is tested
tested_idle : (w : World) → IsWorld w → (guest : ℕ) → Tests w.tables guest
    → stores_of w.tables.code_words ≤ w.tables.stored
tested_idle w is guest tests = by w.tables.asked refl
  where
    by : (asked : Option Entry) → w.tables.asked ≡ asked → stores_of w.tables.code_words ≤ w.tables.stored
    by None none = absurd (no_test w.tables none guest tests)
    by (Some entry) some =
        let asks = subst (MayBeAsked w.tables) some is.tables.asked_fits in
        let idle = asks.idle in
        omega (arith, idle)

-- no store is under way at an opening
row_idle : (c : ℕ) (phase : Phase) → IsRow c (stores_of c) phase → phase ≡ phases.Idle
row_idle c phases.Idle row = refl
row_idle c (phases.Testing guest) row = absurd row
row_idle c (phases.Code next) row = absurd (omega (arith, row.0))
row_idle c (phases.Tary next) row = absurd (omega (arith, row.1))
row_idle c phases.Epoch row = absurd (omega (arith, row))
row_idle c (phases.Bary next) row = absurd (omega (arith, row.1))

opened_idle : (c : ℕ) → phase_after c (stores_of c) ≡ phases.Idle
opened_idle c = row_idle c (phase_after c (stores_of c)) (phase_row c (stores_of c))

module _ (w : World) (is : IsWorld w) (opening : IsFirst w) (run : List Event) (may : MayTurns w run) (guest : ℕ)
    (few : guest < GUESTS) where
  abbrev at : (moment : ℕ) → World
  at moment = world_at w run moment

  at_is : (moment : ℕ) → IsWorld (at moment)
  at_is moment = world_is w is run may moment

  abbrev settled : (moment : ℕ) → ℕ
  settled moment = settled_epoch (at moment).tables

  -- a guest publishes nothing below the first epoch
  not_below : (now quiet : ℕ) → quiet_of (at now) guest ≡ Published quiet → w.tables.first ≤ quiet
  not_below now quiet here =
      let first = opening.first in
      let near = settled_near w.tables is.tables in
      let force = first_low in
      let none : 0 + now ≡ now = omega arith in
      subst (λ q. IsNotBelow w.tables.first q (point_of (at now) guest)) here
      (subst (λ k. IsNotBelow w.tables.first (quiet_of (at k) guest) (point_of (at k) guest)) none
      (holds_from w is run may guest w.tables.first 0 now force (start (opening.quiets guest))))
    where
      first_low : w.tables.first ≤ epoch_in_force w.tables
      first_low = (let force_is = force_epoch w.tables is.tables in omega (arith, force_is))

      start : (quiet_of w guest ≡ Unregistered) ⊎ (quiet_of w guest ≡ Published w.tables.first)
          → IsNotBelow w.tables.first (quiet_of w guest) (point_of w guest)
      start (inl none) = subst (λ q. IsNotBelow w.tables.first q (point_of w guest)) (sym none) tt
      start (inr told) = subst (λ q. IsNotBelow w.tables.first q (point_of w guest)) (sym told) (omega arith)

  module _ (now quiet : ℕ) (here : quiet_of (at now) guest ≡ Published quiet) where
    abbrev passed : Passed w is opening run may guest few now
    passed = passed_at w is opening run may guest few now

    abbrev told : Told w is opening run may guest now quiet
    told = told_at w is opening run may guest now quiet here

    versions_are : (moment : ℕ) → (at moment).tables.versions ≡ w.tables.versions
    versions_are moment = (on_between w is run may 0 moment (omega arith)).versions

    tary_low : (target : ℕ) → epoch_in (tary_in (at now) target) ≤ passed.epoch
    tary_low target =
        let t : Tables = (at now).tables in
        let low = tary_epoch t (at_is now).tables (tary_index t.code_words target)
        (index_within t (at_is now).tables target) in
        let most = passed.most in
        let below = low.1 in
        omega (arith, below, most)

    bary_by : (epoch : ℕ) → IsPassedLast w run guest epoch now
        → IsWithin w run guest quiet epoch told.from now ⊎ IsBehind w run guest epoch told.from now
    bary_by epoch (inl none) =
        let first = none.first in
        let low = not_below now quiet here in
        let some = is.tables.versions_least in
        inl (record {
          near = omega (arith, first, low, some);
          loaded = loaded_from w is run may guest told.from now quiet told.low;
        })
    bary_by epoch (inr (test, last)) = elim (cases_lt test told.from) [
      | inr after ↦
          let word = told.since.told test after (omega (arith, last.past)) in
          let near = admits_by (at test) (at_is test) (at test).tables.versions epoch (quiet_of (at test) guest) quiet
          word
          (at_is test).tables.versions_least last.passes.lets in
          let same = versions_are test in
          inl (record {
            near = omega (arith, near, same);
            loaded = loaded_from w is run may guest told.from now quiet told.low;
          })
      | inl before ↦
          let tested = tested_low test last.passes in
          let up = settles w is run may guest test told.from (omega (arith, before)) in
          inr (record {
            test = test;
            last = last;
            before = apart test epoch last.passes told.from told.since.behind before;
            loaded = loaded_from w is run may guest told.from now epoch (omega (arith, tested, up));
          })
    ]
      where
        never : (store : ℕ) → slice_get run store ≡ Some events.Update → StoresAt w run guest quiet store → ⊥
        never store update stores = (let both = sym update ∙ stores.event in absurd (cc))

        -- no store is under way where a word is tested
        tested_low : (test : ℕ) → PassesAt w run guest epoch test → epoch ≤ settled test + 1
        tested_low test passes =
            let idle = tested_idle (at test) (at_is test) guest passes.tests in
            let is_next = passes.epoch_is in
            elim (settled_cases (at test).tables) [
              | inl some ↦ (let less = some.0 in absurd (omega (arith, less, idle)))
              | inr all ↦ (let n = all.1 in omega (arith, n, is_next))
            ]

        -- a test is no store of the guest's
        apart : (test epoch : ℕ) → PassesAt w run guest epoch test → (from : ℕ)
            → IsBehindStore w run guest quiet from → test < from → test + 1 < from
        apart test epoch passes zero behind less = absurd (omega (arith, less))
        apart test epoch passes (suc store) behind less = elim (cases_eq test store) [
          | inl same ↦ absurd (never store (subst (λ k. slice_get run k ≡ Some events.Update) same passes.event) behind)
          | inr other ↦ omega (arith, less, other)
        ]

    pub bounded : IsBounded w run guest quiet now
    bounded = record {
      epoch = passed.epoch;
      passed = passed.last;
      from = told.from;
      told = told.since;
      tary = tary_low;
      bary = bary_by passed.epoch passed.last;
    }

-- so it is from every opening on
pub updates_are_bounded : UpdatesAreBounded
updates_are_bounded code_words versions first image guests room fuel size can room_fits fuel_fits run may guest quiet
    now here =
    let w : World = opened_world code_words versions first image guests room fuel in
    let is = opened_is code_words versions first image guests room fuel size can room_fits fuel_fits in
    let is_now = world_is w is run may now in
    let there = by_guest (world_at w run now) is_now guest quiet here (slice_get (world_at w run now).guests guest)
    refl in
    let inside = slice_get_within (world_at w run now).guests guest there.0 there.1 in
    let most = is_now.few in
    bounded w is opening run may guest (omega (arith, inside, most)) now quiet here
  where
    quiets_by : (guest : ℕ) (o : Option Raw) → slice_get guests guest ≡ o
        → (let w = opened_world code_words versions first image guests room fuel in
        (quiet_of w guest ≡ Unregistered) ⊎ (quiet_of w guest ≡ Published first))
    quiets_by guest None none =
        inl (absent_is code_words versions first image guests room fuel size can room_fits fuel_fits guest none)
    quiets_by guest (Some r) there =
        inr (quiet_is code_words versions first image guests room fuel size can room_fits fuel_fits guest
        (slice_get_within guests guest r there))

    opening : IsFirst (opened_world code_words versions first image guests room fuel)
    opening = record {
      first = omega arith;
      idle = opened_idle code_words;
      quiets = λ guest. quiets_by guest (slice_get guests guest) refl;
    }
