-- The test of a QUIET word is an event.
use Rattle.std.proofs.Common.{◌≡◌, inl, ℕ, ◌+◌, ◌-◌, ◌<◌, ◌≤◌, nat_lt, cond, Bool, true, false, List, [], ◌∷◌, length, slice_index, Some, refl, sym, ap, subst, ◌∙◌, arith}
use Rattle.std.proofs.lemmas.List.{get_or_append_left, length-append, set-get_or}
use mathlib.Core.Option.{none}
use Rattle.atomic_table.specs.Table.{carried_after, opening, step, stepped}
use Rattle.cfi_word.specs.declared.limits.TheConstants.{GUESTS}
use Rattle.cfi_word.specs.Table.{Place, IsPlace, quiet_word, word_number}
use Rattle.cfi_model.specs.declared.history.Entry.{Entry}
use Rattle.cfi_model.specs.Quiet.{quiet_in}
use Rattle.cfi_model.specs.SharedEvents.{Past, Shared, SharedEvent, AreSame, Makes, MakesPass, MakesRefusal, IsSet, newest_word, past_passed}
use Rattle.cfi_model.specs.SharedEvents as events
use Rattle.cfi_model.specs.Tables.{IsTables, IsAsked, MayBeAsked}
use Rattle.cfi_model.specs.Words.{Tables, HasStore, before, entry_word, newest, next_epoch, no_entry, word_of_entry}
use Rattle.cfi_tables.specs.Events.{TableState, IsSeatStep, Relates, TestsCome, past_of, shared_of, tested_event}
use Rattle.cfi_tables.specs.Key.{Key}
use Rattle.cfi_tables.specs.Keeping.{entry_by, is_out, opened_keeping}
use Rattle.cfi_tables.specs.Rule.{KeepsRule, ShowTables}
use Rattle.cfi_tables.specs.Views.{idle_view, opened_view, tables_of}
use Rattle.cfi_tables.specs.inner.Opening.{opened_words}
use Rattle.cfi_tables.specs.inner.Steps.{Seated, Tests, grown, is_passed, loaded, refused, test_passed, test_refusal, tested_by}
use Rattle.cfi_tables.specs.declared.view.KeeperView.{KeeperView}
use Rattle.cfi_tables.specs.declared.view.View.TheVariants.{Keeper}
use Rattle.cfi_tables.proofs.KeptLemmas.{the_keeper}
use Rattle.cfi_tables.proofs.OpeningLemmas.{opening_kept}
use Rattle.cfi_tables.proofs.PlaceLemmas.{rank_most}
use Rattle.cfi_tables.proofs.ShowLemmas.{word_new, word_old}
use Rattle.cfi_tables.proofs.TestLemmas.{test_allowed}
use Rattle.cfi_tables.proofs.QuietLemmas.{told_back, told_some}
use Rattle.cfi_tables.proofs.RelateLemmas.{keeper_is, keeper_relates, keeper_was, words_are}

-- all words are those of the last entry
abbrev pub AreSettled : Key → (words : List ℕ) → KeeperView → Type 0
AreSettled k words u = (place : Place) → IsPlace k.code_words place → HasStore place
    → slice_index words (word_number k.code_words place) ≡ newest_word (past_of k u) place

-- as they are where the test goes on, and where all words have passed: there is one entry more, and no word is its own
settled_on : (k : Key) (words : List ℕ) (u v : KeeperView) (entry : Entry) → ShowTables k words u
    → IsTables (tables_of k v) → v.asked ≡ Some entry → v.stored ≡ u.stored → AreSettled k words u
settled_on k words u v entry shows tables asked stored place at has =
    let asks : IsAsked (tables_of k v) entry = subst (MayBeAsked (tables_of k v)) asked tables.asked_fits in
    shows place at has
    ∙ word_new (tables_of k u) place (omega (arith, rank_most k.code_words place at has, asks.idle, stored))

settled_last : (k : Key) (words : List ℕ) (u : KeeperView) (entry : Entry) → 1 ≤ length u.entries
    → ShowTables k words (grown entry u) → AreSettled k words u
settled_last k words u entry least shows place at has =
    let old : Tables = tables_of k u in
    let new : Tables = tables_of k (grown entry u) in
    let long = length-append u.entries (entry ∷ []) in
    let number : before new ≡ newest old = omega (arith, long) in
    let same = get_or_append_left u.entries (entry ∷ []) no_entry (newest old) (omega (arith, least)) in
    shows place at has
    ∙ (word_old new place (omega arith)
    ∙ (ap (λ (n : ℕ). word_of_entry new n place) number
    ∙ ap (λ (e : Entry). entry_word k.versions (k.first + newest old) e place) same))

module _ (k : Key) (words : List ℕ) (u : KeeperView) (entry : Entry) (few : u.tested < GUESTS) where
  abbrev found : ℕ
  found = slice_index words (quiet_word u.tested)

  abbrev with_found : KeeperView
  with_found = loaded found u

  abbrev on : KeeperView
  on = record with_found { asked = Some entry; tested = u.tested + 1 }

  past_by : (more : Bool) → nat_lt (u.tested + 1) GUESTS ≡ more
      → past_of k (cond more on (grown entry with_found)) ≡ past_passed entry (past_of k u)
  past_by true e = ap (λ (b : Bool). cond b (past_of k on) (past_of k (grown entry with_found))) (sym e)
  past_by false e = ap (λ (b : Bool). cond b (past_of k on) (past_of k (grown entry with_found))) (sym e)

  -- by the rule before the test and after it
  pub test_settled : IsTables (tables_of k u) → ShowTables k words u
      → IsTables (tables_of k (tested_by k entry found u)) → ShowTables k words (tested_by k entry found u) → is_passed k u found ≡ true → AreSettled k words u
  test_settled is shows tables after ok =
      by (nat_lt (u.tested + 1) GUESTS)
      (subst (λ (z : KeeperView). IsTables (tables_of k z)) passed tables) (subst (ShowTables k words) passed after)
    where
      passed : tested_by k entry found u ≡ test_passed entry with_found
      passed = ap (λ (b : Bool). cond b (test_passed entry with_found)
          (refused (test_refusal k entry.mark u found) with_found)) ok

      by : (more : Bool) → IsTables (tables_of k (cond more on (grown entry with_found)))
          → ShowTables k words (cond more on (grown entry with_found)) → AreSettled k words u
      by true next shown = settled_on k words u on entry shows next refl refl
      by false next shown = settled_last k words with_found entry is.some shown

  pub test_makes : (is_passed k u found ≡ true → AreSettled k words u)
      → Makes (tested_event k entry found u) (shared_of k words u) (shared_of k words (tested_by k entry found u))
  test_makes settled = by (is_passed k u found) refl
    where
      by : (ok : Bool) → is_passed k u found ≡ ok
          → Makes (cond ok (events.Pass entry) (events.Refuse u.tested (found - 1) (next_epoch (tables_of k u))))
          (shared_of k words u)
          (shared_of k words (cond ok (test_passed entry with_found)
          (refused (test_refusal k entry.mark u found) with_found)))
      by true e = record {
        within = few;
        settled = settled e;
        quiet = quiet_in found;
        found = told_back found;
        admitted = e;
        past = past_by (nat_lt (u.tested + 1) GUESTS) refl;
        words = λ place at. refl;
      }
      by false e =
          let told = told_some k.versions (next_epoch (tables_of k u)) found e in
          record {
            turn = refl;
            within = few;
            found = told.0;
            epoch_is = refl;
            spent = told.1;
            past = refl;
            words = λ place at. refl;
          }

pub test_event : (k : Key) (slots : ℕ) (u : KeeperView) (new : Seated) (s t : TableState) (entry : Entry)
    → u.tested < GUESTS
    → (one : IsSeatStep k 0 (quiet_word u.tested) (slice_index s.words (quiet_word u.tested)) (Keeper u, []) new s t)
    → Tests k entry (step slots (quiet_word u.tested) 0 0 none) (Keeper u, [])
    (slice_index s.words (quiet_word u.tested)) new
    → Relates (Makes (tested_event k entry (slice_index s.words (quiet_word u.tested)) u)) k s t one.before one.after
test_event k slots u new s t entry few one tests =
    let number : ℕ = quiet_word u.tested in
    let found : ℕ = slice_index s.words number in
    let v : KeeperView = tested_by k entry found u in
    let event : SharedEvent = tested_event k entry found u in
    let goes : new.0 ≡ Keeper v = ap (λ (z : Seated). z.0) tests.is in
    let was : one.before.keeper ≡ u = keeper_was k number found u new s t one in
    let is : one.after.keeper ≡ v = keeper_is k number found u new s t one v goes in
    let same : t.words ≡ s.words =
    words_are k 0 number found (Keeper u, []) new s t one ∙ set-get_or s.words number 0 in
    keeper_relates k number found u new s t one (Makes event) v goes
    (subst (λ (l : List ℕ). Makes event (shared_of k s.words u) (shared_of k l v)) (sym (set-get_or s.words number 0))
    (test_makes k s.words u entry few
    (test_settled k s.words u entry few (subst (λ (z : KeeperView). IsTables (tables_of k z)) was one.before.tables)
    (subst (ShowTables k s.words) was one.before.shows)
    (subst (λ (z : KeeperView). IsTables (tables_of k z)) is one.after.tables)
    (subst (λ (z : List ℕ × KeeperView). ShowTables k z.0 z.1) (λ i. (same i, is i)) one.after.shows))))

-- a test comes
pub tests_come : TestsCome
tests_come k is left small =
    let u : KeeperView = idle_view k (opened_keeping k) in
    let me : Seated = (Keeper u, []) in
    let entry : Entry = entry_by 0 k.image 0 in
    let words : List ℕ = opened_words (record { epoch = k.first; policy = 0; versions = k.versions }) k.image in
    let s : TableState = opening words [] (opened_view k) in
    let kept : KeepsRule k s = opening_kept k is small words refl in
    let keeper : kept.keeper ≡ u = the_keeper k s kept u refl in
    let zeroth : slice_index words (quiet_word 0) ≡ 0 =
    kept.quiets.away 0 (omega arith) (subst (λ (v : KeeperView). is_out v.out 0 ≡ false) (sym keeper) refl) in
    let allowed = test_allowed k k 0 0 (quiet_word 0) me u entry refl refl refl refl refl (omega arith)
    (inl (record { policy = refl; image = refl })) (omega (arith, left)) refl in
    let goes = allowed s kept refl refl (omega (arith, zeroth)) in (
      words,
      record {
        new = (goes.0, carried_after [] goes.1);
        t = stepped s (quiet_word 0) (slice_index words (quiet_word 0)) 0 [] goes.0 goes.1;
        one = record { before = kept; there = refl; act = goes.1; is = refl; after = goes.3 };
        is = goes.4;
      },
    )
