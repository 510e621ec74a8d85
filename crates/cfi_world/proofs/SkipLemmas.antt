-- The words of the tables from store to store: a code word that needs no store is the same in both entries.
use Rattle.std.proofs.Common.{◌≡◌, ◌≢◌, ℕ, zero, suc, ◌+◌, ◌-◌, ◌*◌, ◌<◌, ◌≤◌, ◌==◌, cond, Bool, true, false, List, [], ◌∷◌, ◌++◌, drop, slice_index, None, refl, sym, ap, ◌∙◌, arith, inl, inr}
use Rattle.std.proofs.lemmas.Bool.{cases_lt, lt-ltb, le-ltb}
use Rattle.std.proofs.lemmas.Bool.Decides.{nat_tests}
use Rattle.std.proofs.lemmas.List.{get_or-drop, length-append}
use Rattle.cfi_word.specs.Rank.{stores_of}
use Rattle.cfi_word.specs.Table.{Place, IsPlace, Epoch, Quiet, Code, Tary, Bary}
use Rattle.cfi_model.specs.declared.history.Entry.{Entry}
use Rattle.cfi_model.specs.Tables.{IsTables, IsAsked}
use Rattle.cfi_model.specs.Words.{Tables, HasStore, before, entry_at, entry_word, newest, rank_at, word_at, word_of_entry}
use Rattle.cfi_world.specs.Updates.{agreeing, at_store, next_store, stored}
use Rattle.cfi_world.proofs.AgreeLemmas.{agree_old}
use Rattle.cfi_model.proofs.TableLemmas.{number_within}
use Rattle.cfi_world.proofs.StoreLemmas.{next_code, old_entry, pushed_are}

-- a word is of the newest entry where it is stored, else of the one before
pub word_new : (t : Tables) (place : Place) → rank_at t.code_words place < t.stored
    → word_at t place ≡ word_of_entry t (newest t) place
word_new t place less = ap (λ b. word_of_entry t (cond b (newest t) (before t)) place) (lt-ltb _ _ less)

pub word_old : (t : Tables) (place : Place) → t.stored ≤ rank_at t.code_words place
    → word_at t place ≡ word_of_entry t (before t) place
word_old t place most = ap (λ b. word_of_entry t (cond b (newest t) (before t)) place) (le-ltb _ _ most)

-- each store has a rank of its own, below the number of stores
pub same_rank : (c : ℕ) (one other : Place) → IsPlace c one → IsPlace c other → HasStore one → HasStore other
    → rank_at c one ≡ rank_at c other → one ≡ other
same_rank c one other a b p q e = grind arith

pub rank_most : (c : ℕ) (place : Place) → IsPlace c place → HasStore place → rank_at c place < stores_of c
rank_most c place at has = grind arith

-- the words on which two lists agree
agreed_by : (b : Bool) (x y : ℕ) (n at : ℕ) → (x == y) ≡ b → suc at < cond b (n + 1) 0 → at < n
agreed_by true x y n at e below = omega (arith, below)
agreed_by false x y n at e below = absurd (omega (arith, below))

agreed_first : (b : Bool) (x y n : ℕ) → (x == y) ≡ b → 0 < cond b (n + 1) 0 → x ≡ y
agreed_first true x y n e below = grind (arith, nat_tests)
agreed_first false x y n e below = absurd (omega (arith, below))

agreed : (old new : List ℕ) (at : ℕ) → at < agreeing old new → slice_index old at ≡ slice_index new at
agreed [] new at below = absurd (omega (arith, below))
agreed (x ∷ old) [] at below = absurd (omega (arith, below))
agreed (x ∷ old) (y ∷ new) zero below = agreed_first (x == y) x y (agreeing old new) refl below
agreed (x ∷ old) (y ∷ new) (suc at) below =
    agreed old new at (agreed_by (x == y) x y (agreeing old new) at refl below)

agreed_from : (old new : List ℕ) (from at : ℕ) → from ≤ at → at < from + agreeing (drop from old) (drop from new)
    → slice_index old at ≡ slice_index new at
agreed_from old new from at most below =
    let here : from + (at - from) ≡ at = omega (arith, most) in
    ap (slice_index old) (sym here)
    ∙ (sym (get_or-drop from old (at - from) 0)
    ∙ (agreed (drop from old) (drop from new) (at - from) (omega (arith, most, below))
    ∙ (get_or-drop from new (at - from) 0 ∙ ap (slice_index new) here)))

module _ (t : Tables) (is : IsTables t) where
  abbrev c : ℕ
  c = t.code_words

  -- the next store is of a code word, or the very next
  next_near : (from : ℕ) → c ≤ from → next_store t from ≡ from
  next_near from past =
      ap (λ n. from + n) (agree_old (entry_at t (before t)).image.code (entry_at t (newest t)).image.code from
      (omega (arith, (is.closed (before t) (number_within t is false)).1.classes.code_length, past)))
      ∙ omega arith

  past_code : (from rank : ℕ) → c ≤ rank → from ≤ rank → rank < next_store t from → ⊥
  past_code from rank past most below = elim (cases_lt from c) [
    | inl few ↦ absurd (omega (arith, next_code t is from (omega (arith, few)), past, below))
    | inr all ↦ absurd (omega (arith, next_near from all, most, below))
  ]

  pub skipped : (from : ℕ) (place : Place) → HasStore place → from ≤ rank_at c place
      → rank_at c place < next_store t from → word_of_entry t (newest t) place ≡ word_of_entry t (before t) place
  skipped from (Code index) has most below =
      sym (agreed_from (entry_at t (before t)).image.code (entry_at t (newest t)).image.code from index most below)
  skipped from (Tary index) has most below = absurd (past_code from (c + index) (omega arith) most below)
  skipped from Epoch has most below = absurd (past_code from (2 * c) (omega arith) most below)
  skipped from (Bary slot) has most below = absurd (past_code from (2 * c + 1 + slot) (omega arith) most below)
  skipped from (Quiet guest) has most below = absurd has

  -- a store changes no other word
  pub store_stays : (place : Place) → HasStore place → rank_at c place ≢ t.stored
      → word_at (stored t) place ≡ word_at t place
  store_stays place has apart = elim (cases_lt (rank_at c place) t.stored) [
    | inl less ↦ word_new (stored t) place (omega (arith, less)) ∙ sym (word_new t place less)
    | inr most ↦ elim (cases_lt (rank_at c place) (next_store t (t.stored + 1))) [
      | inl early ↦
          word_new (stored t) place early
          ∙ (skipped (t.stored + 1) place has (omega (arith, most, apart)) early ∙ sym (word_old t place most))
      | inr late ↦ word_old (stored t) place late ∙ sym (word_old t place most)
    ]
  ]

  pub store_new : (place : Place) → rank_at c place ≡ t.stored
      → word_at (stored t) place ≡ word_of_entry t (newest t) place
  store_new place here = word_new (stored t) place (omega (arith, here))

-- one entry more, of which nothing is stored yet, changes no word
module _ (t : Tables) (is : IsTables t) (entry : Entry) (asked : IsAsked t entry) where
  abbrev longer : Tables
  longer = record t { entries = t.entries ++ entry ∷ []; stored = 0; asked = None; tested = 0 }

  earlier : (place : Place) → word_of_entry longer (before longer) place ≡ word_of_entry t (newest t) place
  earlier place =
      let long = length-append t.entries (entry ∷ []) in
      let number : before longer ≡ newest t = omega (arith, long) in
      ap (λ n. word_of_entry longer n place) number
      ∙ ap (λ e. entry_word t.versions (t.first + newest t) e place)
      (old_entry t is entry asked (newest t) (omega (arith, is.some)))

  pub begins_stay : (place : Place) → IsPlace t.code_words place → HasStore place
      → word_at (at_store 0 longer) place ≡ word_at t place
  begins_stay place at has =
      let now : word_at t place ≡ word_of_entry t (newest t) place =
      word_new t place (omega (arith, rank_most t.code_words place at has, asked.idle)) in
      elim (cases_lt (rank_at t.code_words place) (next_store longer 0)) [
        | inl early ↦
            word_new (at_store 0 longer) place early
            ∙ (skipped longer (pushed_are t is entry asked) 0 place has (omega arith) early ∙ (earlier place ∙ sym now))
        | inr late ↦ word_old (at_store 0 longer) place late ∙ (earlier place ∙ sym now)
      ]
