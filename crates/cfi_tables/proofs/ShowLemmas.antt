-- That the words show the tables, from store to store.
use Rattle.std.proofs.Common.{◌≡◌, ◌≢◌, ℕ, ◌+◌, ◌<◌, ◌≤◌, cond, inl, inr, List, [], ◌∷◌, length, length-append, slice_index, slice_set, sym, ap, subst, ◌∙◌, arith}
use Rattle.std.proofs.lemmas.Bool.{cases_lt, lt-ltb, le-ltb}
use Rattle.std.proofs.lemmas.List.{get_or-set_other, get_or-set_same, get_or_append_left}
use mathlib.Core.Logic.{dite}
use native.Mathlib.Decide.{ℕ_discrete}
use Rattle.cfi_word.specs.Rank.{stores_of}
use Rattle.cfi_word.specs.Table.{Place, IsPlace, word_count, word_number}
use Rattle.cfi_model.specs.declared.history.Entry.{Entry}
use Rattle.cfi_model.specs.Words.{Tables, before, entry_word, newest, no_entry, rank_at, word_at, word_of_entry}
use Rattle.cfi_tables.specs.Key.{Key}
use Rattle.cfi_tables.specs.Rule.{ShowTables}
use Rattle.cfi_model.specs.Words.{HasStore}
use Rattle.cfi_tables.specs.Views.{tables_of}
use Rattle.cfi_tables.specs.inner.Steps.{grown, stored_to}
use Rattle.cfi_tables.specs.declared.view.KeeperView.{KeeperView}
use Rattle.cfi_tables.proofs.PlaceLemmas.{place_within, rank_most, ranks_apart}
use Rattle.cfi_model.proofs.PhaseLemmas.{same_place}

-- a place's word is of the newest entry where its rank is below the number of stores, else of the one before
pub word_new : (t : Tables) (place : Place) → rank_at t.code_words place < t.stored
    → word_at t place ≡ word_of_entry t (newest t) place
word_new t place less = ap (λ b. word_of_entry t (cond b (newest t) (before t)) place) (lt-ltb _ _ less)

pub word_old : (t : Tables) (place : Place) → t.stored ≤ rank_at t.code_words place
    → word_at t place ≡ word_of_entry t (before t) place
word_old t place most = ap (λ b. word_of_entry t (cond b (newest t) (before t)) place) (le-ltb _ _ most)

-- the words whose stores come next, up to that of a place, are the same in both entries: they need no store
abbrev pub AreSkipped : Key → KeeperView → Place → Type 0
AreSkipped k u place =
    (other : Place) → IsPlace k.code_words other → HasStore other → u.stored ≤ rank_at k.code_words other
    → rank_at k.code_words other < rank_at k.code_words place
    → word_of_entry (tables_of k u) (newest (tables_of k u)) other
    ≡ word_of_entry (tables_of k u) (before (tables_of k u)) other

module _ (k : Key) (u : KeeperView) (place : Place) (at : IsPlace k.code_words place) (has : HasStore place)
    (least : u.stored ≤ rank_at k.code_words place) (skipped : AreSkipped k u place) where
  abbrev c : ℕ
  c = k.code_words

  abbrev t : Tables
  t = tables_of k u

  abbrev new : Tables
  new = tables_of k (stored_to (rank_at k.code_words place) u)

  -- the others are as before
  word_stays : (other : Place) → IsPlace k.code_words other → HasStore other
      → word_number k.code_words other ≢ word_number k.code_words place → word_at t other ≡ word_at new other
  word_stays other inside stored apart = elim (cases_lt (rank_at k.code_words other) u.stored) [
    | inl less ↦ word_new t other less ∙ sym (word_new new other (omega (arith, less)))
    | inr most ↦ elim (cases_lt (rank_at k.code_words other) (rank_at k.code_words place)) [
      | inl early ↦
          word_old t other most ∙ (sym (skipped other inside stored most early)
          ∙ sym (word_new new other (omega (arith, early))))
      | inr late ↦
          let differ = ranks_apart k.code_words other place inside at stored has apart in
          word_old t other most ∙ sym (word_old new other (omega (arith, late, differ)))
    ]
  ]

  -- after the store of the newest entry's word at the place
  pub store_shows : (words : List ℕ) (word : ℕ) → length words ≡ word_count k.code_words → ShowTables k words u
      → word ≡ word_of_entry t (newest t) place
      → ShowTables k (slice_set words (word_number k.code_words place) word)
      (stored_to (rank_at k.code_words place) u)
  store_shows words word many shows is other inside stored =
      dite (ℕ_discrete (word_number k.code_words other) (word_number k.code_words place))
      (λ e.
      let same : place ≡ other = same_place k.code_words place other at inside (sym e) in
      subst (λ p. slice_index (slice_set words (word_number k.code_words place) word) (word_number k.code_words p)
      ≡ word_at new p) same
      (get_or-set_same words (word_number k.code_words place) word 0
      (omega (arith, many, place_within k.code_words place at))
      ∙ (is ∙ sym (word_new new place (omega arith)))))
      (λ apart.
      get_or-set_other words (word_number k.code_words place) (word_number k.code_words other) word 0 apart
      ∙ (shows other inside stored ∙ word_stays other inside stored apart))

-- one entry more, of which nothing is stored yet
module _ (k : Key) (u : KeeperView) (entry : Entry) where
  abbrev longer : Tables
  longer = tables_of k (grown entry u)

  pub grown_shows : (words : List ℕ) → u.stored ≡ stores_of k.code_words → 1 ≤ length u.entries
      → ShowTables k words u → ShowTables k words (grown entry u)
  grown_shows words idle some shows place at has =
      let old : Tables = tables_of k u in
      let most = rank_most k.code_words place at has in
      let long = length-append u.entries (entry ∷ []) in
      let number : before longer ≡ newest old = omega (arith, long) in
      let same = get_or_append_left u.entries (entry ∷ []) no_entry (newest old) (omega arith) in
      shows place at has
      ∙ (word_new old place (omega arith)
      ∙ (sym (ap (λ e. entry_word k.versions (k.first + newest old) e place) same)
      ∙ (sym (ap (λ n. word_of_entry longer n place) number) ∙ sym (word_old longer place (omega arith)))))
