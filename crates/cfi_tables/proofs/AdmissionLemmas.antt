-- The test of all QUIET words, one after the other.
use Rattle.std.proofs.Common.{◌≡◌, ◌≢◌, inl, inr, ℕ, zero, suc, ◌+◌, ◌-◌, ◌<◌, ◌≤◌, nat_lt, cond, Bool, true, false, [], length, length-set, slice_index, refl, sym, ap, subst, ◌∙◌, arith}
use Rattle.std.proofs.lemmas.Bool.{cases_lt, lt-ltb}
use Rattle.std.proofs.lemmas.List.{get_or-set_other, get_or-set_same}
use mathlib.Core.Logic.{dite}
use native.Mathlib.Decide.{ℕ_discrete}
use Rattle.atomic_table.specs.Seated.{TableId}
use Rattle.cfi_word.specs.declared.limits.TheConstants.{GUESTS}
use Rattle.cfi_model.specs.declared.history.Entry.{Entry}
use Rattle.cfi_model.specs.Quiet.{admits, quiet_in}
use Rattle.cfi_tables.specs.Faults.{AdmitBelow, AreLater, HeardBelow, IsFirstBehind, IsSameOf, epoch_after}
use Rattle.cfi_tables.specs.Key.{Key}
use Rattle.cfi_tables.specs.Keeping.{Keeping, found_as, grown_by, heard_in, refused_by}
use Rattle.cfi_tables.specs.Views.{idle_view, keeper_of, keeping_of, view_at}
use Rattle.cfi_tables.specs.inner.Steps.{Seated, tested_by}
use Rattle.cfi_tables.specs.inner.Stores.{HavePassed, IsAt, CanAsk, IsTesting, asked_at, keeping_at, testing}
use Rattle.cfi_tables.specs.declared.view.Quiets.{Quiets}
use Rattle.cfi_tables.specs.declared.view.View.TheVariants.{Keeper}
use Rattle.cfi_tables.proofs.QuietLemmas.{told_some}
use Rattle.cfi_tables.proofs.WordTestLemmas.{heard, passes_to, fails_to}

-- what was loaded does not matter
pub ready_before : (k : Key) (keeping : Keeping) (entry : Entry) (quiets : Quiets) → CanAsk k keeping entry
    → AreLater keeping.quiets quiets → CanAsk k (record keeping { quiets = quiets }) entry
ready_before k keeping entry quiets ready later = record {
  tables = ready.tables;
  follows = ready.follows;
  fits = ready.fits;
  many = later.many ∙ ready.many;
  found_many = later.found_many ∙ ready.found_many;
}

testing_quiets : (k : Key) (keeping : Keeping) (entry : Entry) (tested : ℕ)
    → (keeping_of (testing k keeping entry tested)).quiets ≡ keeping.quiets
testing_quiets k keeping entry tested = by (nat_lt tested GUESTS)
  where
    asked_quiets : (n : ℕ) → (keeping_of (asked_at k keeping entry n)).quiets ≡ keeping.quiets
    asked_quiets zero = refl
    asked_quiets (suc n) = refl

    by : (more : Bool)
        → (keeping_of (cond more (asked_at k keeping entry tested)
        (view_at (grown_by entry keeping.quiets keeping) 0))).quiets ≡ keeping.quiets
    by true = asked_quiets tested
    by false = refl

-- how many words the test of an update has passed, where it goes on
testing_tested : (k : Key) (keeping : Keeping) (entry : Entry) (tested : ℕ) → tested < GUESTS
    → (testing k keeping entry tested).tested ≡ tested
testing_tested k keeping entry tested few =
    ap (λ b. (cond b (asked_at k keeping entry tested) (view_at (grown_by entry keeping.quiets keeping) 0)).tested)
    (lt-ltb _ _ few) ∙ asked_tested tested
  where
    asked_tested : (n : ℕ) → (asked_at k keeping entry n).tested ≡ n
    asked_tested zero = refl
    asked_tested (suc n) = refl

-- what is known of the guests after the load of one QUIET word more
module _ (quiets : Quiets) (tested found : ℕ) (few : tested < length quiets.heard)
    (few_found : tested < length quiets.found) where
  abbrev all : Quiets
  all = found_as tested found quiets

  abbrev known : ℕ
  known = slice_index quiets.heard tested

  found_here : slice_index all.found tested ≡ found
  found_here = get_or-set_same quiets.found tested found 0 few_found

  heard_here : slice_index all.heard tested ≡ heard_in found known
  heard_here = get_or-set_same quiets.heard tested (heard_in found known) 0 few

  else_is : (other : ℕ) → other ≢ tested → IsSameOf quiets all other
  else_is other apart = record {
    heard = get_or-set_other quiets.heard tested other (heard_in found known) 0 apart;
    found = get_or-set_other quiets.found tested other found 0 apart;
  }

module _ (k : Key) (keeping : Keeping) (quiets : Quiets) (tested found : ℕ) (few : tested < length quiets.heard)
    (few_found : tested < length quiets.found) (passed : HavePassed k keeping quiets tested)
    (up : slice_index quiets.heard tested ≤ heard_in found (slice_index quiets.heard tested)) where
  abbrev now : Quiets
  now = found_as tested found quiets

  word_is : slice_index now.found tested ≡ found
  word_is = found_here quiets tested found few few_found

  stays : (other : ℕ) → other ≢ tested → IsSameOf quiets now other
  stays = else_is quiets tested found few few_found

  earlier : AdmitBelow k keeping now tested
  earlier other before =
      ap (λ word. admits k.versions (epoch_after k keeping) (quiet_in word))
      (stays other (λ e. omega (arith, e, before))).found
      ∙ passed.admit other before

  later_words : AreLater keeping.quiets now
  later_words = record {
    many = length-set quiets.heard tested (heard_in found (slice_index quiets.heard tested)) ∙ passed.later.many;
    found_many = length-set quiets.found tested found ∙ passed.later.found_many;
    least = λ guest. dite (ℕ_discrete guest tested)
        (λ same. omega (
          arith,
          passed.later.least guest,
          ap (slice_index quiets.heard) same,
          up,
          ap (slice_index now.heard) same ∙ heard_here quiets tested found few few_found,
        ))
        (λ apart. omega (arith, passed.later.least guest, (stays guest apart).heard));
  }

  rest : (other : ℕ) → tested < other → IsSameOf keeping.quiets now other
  rest other past =
      let stay = stays other (λ e. omega (arith, e, past)) in
      let was = passed.rest other (omega (arith, past)) in
      record { heard = stay.heard ∙ was.heard; found = stay.found ∙ was.found }

  -- each word that was loaded tells what is known
  told : HeardBelow keeping.quiets now (tested + 1)
  told other less = elim (cases_lt other tested) [
    | inl before ↦
        let stay = stays other (λ e. omega (arith, e, before)) in
        stay.heard ∙ (passed.heard other before
        ∙ ap (λ word. heard_in word (slice_index keeping.quiets.heard other)) (sym stay.found))
    | inr most ↦
        let here : tested ≡ other = omega (arith, most, less) in
        subst
        (λ n. slice_index now.heard n ≡ heard_in (slice_index now.found n) (slice_index keeping.quiets.heard n)) here
        (heard_here quiets tested found few few_found
        ∙ ap (λ (z : ℕ × ℕ). heard_in z.0 z.1)
        (λ i. (sym word_is i, (passed.rest tested (omega arith)).heard i)))
  ]

  -- one QUIET word more has passed
  passed_more : admits k.versions (epoch_after k keeping) (quiet_in found) ≡ true
      → HavePassed k keeping now (tested + 1)
  passed_more ok = record {
    admit = admit;
    later = later_words;
    heard = told;
    rest = λ other past. rest other (omega (arith, past));
  }
    where
      admit : AdmitBelow k keeping now (tested + 1)
      admit other less = elim (cases_lt other tested) [
        | inl before ↦ earlier other before
        | inr here ↦
            ap (λ word. admits k.versions (epoch_after k keeping) (quiet_in word))
            (ap (slice_index now.found) (omega (arith, here, less)) ∙ word_is) ∙ ok
      ]

  -- or it has not, and is the first
  first_is : admits k.versions (epoch_after k keeping) (quiet_in found) ≡ false
      → IsFirstBehind k keeping now tested (found - 1)
  first_is bad = record {
    word = word_is ∙ (told_some k.versions (epoch_after k keeping) found bad).0;
    behind = ap (λ word. admits k.versions (epoch_after k keeping) (quiet_in word)) word_is ∙ bad;
    admit = earlier;
    heard = told;
    rest = rest;
  }

module _ (table : TableId) (k : Key) (keeping : Keeping) (entry : Entry) (ready : CanAsk k keeping entry)
    (at : TableId) (id : ℕ) (me : Seated) (tested : ℕ) (few : tested < GUESTS)
    (is : IsTesting table k keeping entry at id me tested) (at' : TableId) (id' : ℕ) (new : Seated) (found : ℕ)
    (at_is : at' ≡ at) (id_is : id' ≡ id) (goes : new ≡ (Keeper (tested_by k entry found (keeper_of me.0)), me.1))
    (later : slice_index (keeper_of me.0).quiets.heard (keeper_of me.0).tested
    ≤ heard_in found (slice_index (keeper_of me.0).quiets.heard (keeper_of me.0).tested)) where
  abbrev quiets : Quiets
  quiets = (keeping_at me).quiets

  abbrev before : Keeping
  before = record keeping { quiets = quiets }

  many : tested < length quiets.heard
  many = omega (arith, few, is.passed.later.many ∙ ready.many)

  many_found : tested < length quiets.found
  many_found = omega (arith, few, is.passed.later.found_many ∙ ready.found_many)

  up : slice_index quiets.heard tested ≤ heard_in found (slice_index quiets.heard tested)
  up =
      let turn : (keeper_of me.0).tested ≡ tested =
      ap (λ (z : Seated). (keeper_of z.0).tested) is.seat.me_is ∙ testing_tested k before entry tested few in
      subst (λ n. slice_index quiets.heard n ≤ heard_in found (slice_index quiets.heard n)) turn later

  -- the words stay as many, and none is less
  pub words_later : AreLater keeping.quiets (found_as tested found quiets)
  words_later = later_words k keeping quiets tested found many many_found is.passed up

  -- the test goes on with the next guest
  pub test_goes_on : admits k.versions (epoch_after k keeping) (quiet_in found) ≡ true
      → IsTesting table k keeping entry at' id' new (tested + 1)
  test_goes_on ok =
      let all = found_as tested found quiets in
      let next =
      passes_to k before entry (ready_before k keeping entry quiets ready is.passed.later) tested few me new found
      is.seat.me_is goes ok in
      let loads : (keeping_at new).quiets ≡ all =
      ap (λ z. (keeping_at z).quiets) next
      ∙ testing_quiets k (heard found tested before) entry (tested + 1) in
      record {
        seat = record {
          table_is = at_is ∙ is.seat.table_is;
          id_is = id_is ∙ is.seat.id_is;
          me_is = next ∙ ap (λ l. (Keeper (testing k (record keeping { quiets = l }) entry (tested + 1)), []))
              (sym loads);
        };
        passed = subst (λ l. HavePassed k keeping l (tested + 1)) (sym loads)
            (passed_more k keeping quiets tested found many many_found is.passed up ok);
      }

  -- or ends
  pub test_fails : (spent_mark : ℕ) → spent_mark ≡ entry.mark
      → admits k.versions (epoch_after k keeping) (quiet_in found) ≡ false
      → IsAt table at' id' new (idle_view k (refused_by (record {
        guest = tested;
        quiet = found - 1;
        epoch = epoch_after k keeping;
        mark = spent_mark;
      }) (keeping_at new).quiets keeping))
      × IsFirstBehind k keeping (keeping_at new).quiets tested (found - 1)
  test_fails spent_mark mark_is bad =
      let all = found_as tested found quiets in
      let next =
      fails_to k before entry (ready_before k keeping entry quiets ready is.passed.later) tested few me new found
      is.seat.me_is goes bad in
      let loads : (keeping_at new).quiets ≡ all = ap (λ z. (keeping_at z).quiets) next in (
        record {
          table_is = at_is ∙ is.seat.table_is;
          id_is = id_is ∙ is.seat.id_is;
          me_is = next ∙ ap (λ (z : ℕ × Quiets). (
            Keeper (idle_view k (refused_by (record {
              guest = tested;
              quiet = found - 1;
              epoch = epoch_after k keeping;
              mark = z.0;
            }) z.1 keeping)),
            [],
          )) (λ j. (sym mark_is j, sym loads j));
        },
        subst (λ l. IsFirstBehind k keeping l tested (found - 1)) (sym loads)
            (first_is k keeping quiets tested found many many_found is.passed up bad),
      )
