-- The test of one QUIET word: the step may be made, and the word passes or does not.
use Rattle.std.proofs.Common.{◌≡◌, ℕ, zero, suc, ◌+◌, ◌-◌, ◌<◌, ◌≤◌, nat_lt, cond, true, false, List, [], length, Some, None, refl, sym, ap, subst, ◌∙◌, arith}
use Rattle.std.proofs.lemmas.Bool.{lt-ltb}
use mathlib.Core.Option.{none}
use Rattle.atomic_table.specs.Table.{Allows, step}
use Rattle.cfi_word.specs.declared.limits.TheConstants.{GUESTS, MAX_EPOCH}
use Rattle.cfi_word.specs.Rank.{stores_of}
use Rattle.cfi_word.specs.Table.{quiet_word}
use Rattle.cfi_model.specs.declared.history.Entry.{Entry}
use Rattle.cfi_model.specs.declared.history.Refusal.{Refusal}
use Rattle.cfi_model.specs.Quiet.{admits, quiet_in}
use Rattle.cfi_model.specs.Tables.{IsUpdate}
use Rattle.cfi_model.specs.Words.{epoch_in_force}
use Rattle.cfi_tables.specs.Faults.{epoch_after}
use Rattle.cfi_tables.specs.Key.{Key}
use Rattle.cfi_tables.specs.Keeping.{Keeping, found_as, grown_by, last_of, refused_by}
use Rattle.cfi_tables.specs.Rule.{KeepsRule}
use Rattle.cfi_tables.specs.Views.{idle_tables, idle_view, keeper_of, keeping_of, tables_of, view_at}
use Rattle.cfi_tables.specs.inner.Steps.{Seated, Tests, grown, is_passed, loaded, test_passed, test_refusal, refused, tested_by}
use Rattle.cfi_tables.specs.inner.Stores.{CanAsk, asked_at, testing}
use Rattle.cfi_tables.specs.declared.view.KeeperView.{KeeperView}
use Rattle.cfi_tables.specs.declared.view.View.TheVariants.{Keeper}
use Rattle.cfi_tables.proofs.TestLemmas.{test_allowed}

-- what the keeper keeps after the load of one QUIET word more
abbrev pub heard : (word tested : ℕ) → Keeping → Keeping
heard word tested keeping = record keeping { quiets = found_as tested word keeping.quiets }

module _ (k : Key) (keeping : Keeping) (entry : Entry) where
  -- a view of the test is the idle one, but for the update and the count
  record IsAsked (u : KeeperView) (tested : ℕ) : Type 0 where
    pub tested_is : u.tested ≡ tested
    pub held_is : u.held ≡ None
    pub stored_is : u.stored ≡ stores_of k.code_words
    pub keeping_is : keeping_of u ≡ keeping
    pub on : (word n : ℕ) → record (loaded word u) { asked = Some entry; tested = suc n }
        ≡ asked_at k (heard word tested keeping) entry (suc n)
    pub grows : (word : ℕ) → let now = heard word tested keeping in
        grown entry (loaded word u) ≡ view_at (grown_by entry now.quiets now) 0
    pub force_is : epoch_in_force (tables_of k u) ≡ epoch_in_force (idle_tables k keeping)
    pub drops : (word : ℕ) (refusal : Refusal) → let now = heard word tested keeping in
        refused refusal (loaded word u) ≡ idle_view k (refused_by refusal now.quiets now)

  asked_is : (tested : ℕ) → IsAsked (asked_at k keeping entry tested) tested
  asked_is zero = record {
    tested_is = refl;
    held_is = refl;
    stored_is = refl;
    keeping_is = refl;
    on = λ word n. refl;
    grows = λ word. refl;
    force_is = refl;
    drops = λ word refusal. refl;
  }
  asked_is (suc more) = record {
    tested_is = refl;
    held_is = refl;
    stored_is = refl;
    keeping_is = refl;
    on = λ word n. refl;
    grows = λ word. refl;
    force_is = refl;
    drops = λ word refusal. refl;
  }

  -- one more is tested
  module _ (ready : CanAsk k keeping entry) (tested : ℕ) (few : tested < GUESTS) where
    abbrev u : KeeperView
    u = asked_at k keeping entry tested

    testing_is : testing k keeping entry tested ≡ u
    testing_is =
        ap (λ b. cond b u (view_at (grown_by entry keeping.quiets keeping) 0)) (lt-ltb _ _ few)

    pub testing_allowed : (key : Key) (slots id i : ℕ) (me : Seated) → key ≡ k → id ≡ 0
        → me ≡ (Keeper (testing k keeping entry tested), []) → i ≡ quiet_word tested
        → Allows (KeepsRule key) slots id me i (λ n. n) (Tests k entry (step slots i 0 0 none) me)
    testing_allowed key slots id i me same zeroth is word_is =
        let a = asked_is tested in
        let entries = ap (λ (z : Keeping). z.entries) a.keeping_is in
        test_allowed k key slots id i me u entry same zeroth (is ∙ ap (λ v. (Keeper v, [])) testing_is) a.stored_is
        a.held_is (omega (arith, a.tested_is, few))
        (subst (λ l. IsUpdate k.code_words (last_of l) entry) (sym entries) ready.follows)
        (subst (λ (l : List Entry). k.first + length l ≤ MAX_EPOCH) (sym entries) ready.fits)
        (word_is ∙ ap quiet_word (sym a.tested_is))

    module _ (me new : Seated) (found : ℕ) (is : me ≡ (Keeper (testing k keeping entry tested), []))
        (goes : new ≡ (Keeper (tested_by k entry found (keeper_of me.0)), me.1)) where
      abbrev v : KeeperView
      v = loaded found u

      new_is : new ≡ (Keeper (tested_by k entry found u), [])
      new_is =
          goes
          ∙ (ap (λ (z : Seated). (Keeper (tested_by k entry found (keeper_of z.0)), z.1)) is
          ∙ ap (λ v. (Keeper (tested_by k entry found v), [])) testing_is)

      -- whether the word passes does not lie in the count
      same_test : is_passed k u found ≡ admits k.versions (epoch_after k keeping) (quiet_in found)
      same_test = ap (λ (z : Keeping). admits k.versions (k.first + length z.entries) (quiet_in found))
          (asked_is tested).keeping_is

      pub passes_to : admits k.versions (epoch_after k keeping) (quiet_in found) ≡ true
          → new ≡ (Keeper (testing k (heard found tested keeping) entry (tested + 1)), [])
      passes_to ok =
          new_is ∙ ap (λ v. (Keeper v, []))
          (ap (λ b. cond b (test_passed entry v) (refused (test_refusal k entry.mark u found) v)) (same_test ∙ ok)
          ∙ passed_is)
        where
          more : ℕ
          more = tested + 1

          one_more : u.tested + 1 ≡ tested + 1
          one_more = ap (λ n. n + 1) (asked_is tested).tested_is

          suc_is : (n : ℕ) → n + 1 ≡ suc n
          suc_is n = omega arith

          now : Keeping
          now = heard found tested keeping

          on_is : record v { asked = Some entry; tested = u.tested + 1 } ≡ asked_at k now entry (tested + 1)
          on_is =
              ap (λ n. record v { asked = Some entry; tested = n }) (one_more ∙ suc_is tested)
              ∙ ((asked_is tested).on found tested ∙ ap (asked_at k now entry) (sym (suc_is tested)))

          passed_is : test_passed entry v ≡ testing k now entry (tested + 1)
          passed_is =
              ap (λ n. cond (nat_lt n GUESTS) (record v { asked = Some entry; tested = u.tested + 1 }) (grown entry v))
              one_more
              ∙ (ap (λ w. cond (nat_lt (tested + 1) GUESTS) w (grown entry v)) on_is
              ∙ ap (λ w. cond (nat_lt (tested + 1) GUESTS) (asked_at k now entry (tested + 1)) w)
              ((asked_is tested).grows found))

      pub fails_to : admits k.versions (epoch_after k keeping) (quiet_in found) ≡ false
          → let now = heard found tested keeping in
          new ≡ (
            Keeper (idle_view k (refused_by (record {
              guest = tested;
              quiet = found - 1;
              epoch = epoch_after k keeping;
              mark = entry.mark;
            }) now.quiets now)),
            [],
          )
      fails_to bad =
          new_is ∙ ap (λ v. (Keeper v, []))
          (ap (λ b. cond b (test_passed entry v) (refused (test_refusal k entry.mark u found) v)) (same_test ∙ bad)
          ∙ ((asked_is tested).drops found (test_refusal k entry.mark u found)
          ∙ ap (λ (z : ℕ × ℕ). idle_view k (refused_by (record {
            guest = z.0;
            quiet = found - 1;
            epoch = z.1;
            mark = entry.mark;
          }) (heard found tested keeping).quiets (heard found tested keeping)))
          (λ j. ((asked_is tested).tested_is j, k.first + length ((asked_is tested).keeping_is j).entries))))
