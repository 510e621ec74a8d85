-- Which words are new in each phase.
use Rattle.std.proofs.Common.{◌≡◌, ◌≢◌, ℕ, ◌+◌, ◌*◌, ◌<◌, ◌≤◌, nat_lt, ◌==◌, cond, Bool, true, false, inl, inr, refl, sym, ap, ◌∙◌, arith, Option, Some, None}
use Rattle.std.specs.Prelude.{⊤}
use Rattle.std.proofs.lemmas.Bool.{cases_lt, lt-ltb, le-ltb}
use Rattle.std.proofs.lemmas.Bool.Decides.{nat_tests}
use Rattle.cfi_word.specs.Table.{Place, Epoch, Quiet, Code, Tary, Bary, IsPlace, word_number}
use Rattle.cfi_word.specs.Rank.{rank, IsStored, stores_of}
use Rattle.cfi_word.proofs.RankLemmas.{rank-code, rank-tary, rank-epoch, rank-bary}
use Rattle.cfi_model.specs.declared.history.Entry.{Entry}
use Rattle.cfi_model.specs.declared.phase.Phase.{Phase}
use Rattle.cfi_model.specs.declared.phase.Phase.TheVariants as phases
use Rattle.cfi_model.specs.Words.{Tables, rank_at, is_stored, word_at, word_of_entry, newest, before}
use Rattle.cfi_model.specs.Phases.{phase_after, phase_by, phase_of, is_newest, number_in, one_more}
use Rattle.cfi_model.specs.Tables.{IsTables, MayBeAsked}

-- each place has a word of its own
pub same_place : (c : ℕ) (one other : Place) → IsPlace c one → IsPlace c other
    → word_number c one ≡ word_number c other → one ≡ other
same_place c one other a b e = grind arith

-- the phase after so many stores, row by row
abbrev pub IsRow : (code_words stored : ℕ) → Phase → Type 0
IsRow c s phases.Idle = stores_of c ≤ s
IsRow c s (phases.Testing guest) = ⊥
IsRow c s (phases.Code next) = (s < c) × (next ≡ s)
IsRow c s (phases.Tary next) = (c ≤ s) × (s < 2 * c) × (c + next ≡ s)
IsRow c s phases.Epoch = s ≡ 2 * c
IsRow c s (phases.Bary next) = (2 * c < s) × (s < stores_of c) × (2 * c + 1 + next ≡ s)

row_by : (c s : ℕ) (b : Bool) (yes_is other : Phase) → (b ≡ true → IsRow c s yes_is) → (b ≡ false → IsRow c s other)
    → IsRow c s (cond b yes_is other)
row_by c s true yes_is other p q = p refl
row_by c s false yes_is other p q = q refl

pub phase_row : (c s : ℕ) → IsRow c s (phase_after c s)
phase_row c s =
    row_by c s (nat_lt s c) _ _ (λ e. grind (arith, nat_tests))
    (λ e. row_by c s (nat_lt s (2 * c)) _ _ (λ f. grind (arith, nat_tests))
    (λ f. row_by c s (s == 2 * c) _ _ (λ g. grind (arith, nat_tests))
    (λ g. row_by c s (nat_lt s (stores_of c)) _ _ (λ h. grind (arith, nat_tests)) (λ h. grind (arith, nat_tests)))))

-- a place's word is new exactly where its rank is below the number of stores
shifted : (k i n s : ℕ) → k + n ≡ s → nat_lt i n ≡ nat_lt (k + i) s
shifted k i n s e = elim (cases_lt i n) [
  | inl h ↦ lt-ltb i n h ∙ sym (lt-ltb (k + i) s (omega arith))
  | inr h ↦ le-ltb i n h ∙ sym (le-ltb (k + i) s (omega arith))
]

-- the place's word is one that updates store
abbrev pub HasStore : Place → Type 0
HasStore (Quiet guest) = ⊥
HasStore place = ⊤

pub row_tells : (c s : ℕ) (phase : Phase) (place : Place) → s ≤ stores_of c → IsRow c s phase → IsPlace c place
    → HasStore place → is_newest phase place ≡ nat_lt (rank_at c place) s
row_tells c s phase (Quiet guest) most row at has = absurd has
row_tells c s phases.Idle (Code index) most row at has = sym (lt-ltb index s (omega arith))
row_tells c s phases.Idle (Tary index) most row at has = sym (lt-ltb (c + index) s (omega arith))
row_tells c s phases.Idle Epoch most row at has = sym (lt-ltb (2 * c) s (omega arith))
row_tells c s phases.Idle (Bary slot) most row at has = sym (lt-ltb (2 * c + 1 + slot) s (omega arith))
row_tells c s (phases.Testing guest) (Code index) most row at has = absurd row
row_tells c s (phases.Testing guest) (Tary index) most row at has = absurd row
row_tells c s (phases.Testing guest) Epoch most row at has = absurd row
row_tells c s (phases.Testing guest) (Bary slot) most row at has = absurd row
row_tells c s (phases.Code next) (Code index) most row at has = ap (λ n. nat_lt index n) row.1
row_tells c s (phases.Code next) (Tary index) most row at has = sym (le-ltb (c + index) s (omega (arith, row.0)))
row_tells c s (phases.Code next) Epoch most row at has = sym (le-ltb (2 * c) s (omega (arith, row.0)))
row_tells c s (phases.Code next) (Bary slot) most row at has =
    sym (le-ltb (2 * c + 1 + slot) s (omega (arith, row.0)))
row_tells c s (phases.Tary next) (Code index) most row at has = sym (lt-ltb index s (omega (arith, row.0)))
row_tells c s (phases.Tary next) (Tary index) most row at has = shifted c index next s row.2
row_tells c s (phases.Tary next) Epoch most row at has = sym (le-ltb (2 * c) s (omega (arith, row.1)))
row_tells c s (phases.Tary next) (Bary slot) most row at has =
    sym (le-ltb (2 * c + 1 + slot) s (omega (arith, row.1)))
row_tells c s phases.Epoch (Code index) most row at has = sym (lt-ltb index s (omega arith))
row_tells c s phases.Epoch (Tary index) most row at has = sym (lt-ltb (c + index) s (omega arith))
row_tells c s phases.Epoch Epoch most row at has = sym (le-ltb (2 * c) s (omega arith))
row_tells c s phases.Epoch (Bary slot) most row at has = sym (le-ltb (2 * c + 1 + slot) s (omega arith))
row_tells c s (phases.Bary next) (Code index) most row at has = sym (lt-ltb index s (omega (arith, row.0)))
row_tells c s (phases.Bary next) (Tary index) most row at has = sym (lt-ltb (c + index) s (omega (arith, row.0)))
row_tells c s (phases.Bary next) Epoch most row at has = sym (lt-ltb (2 * c) s (omega (arith, row.0)))
row_tells c s (phases.Bary next) (Bary slot) most row at has = shifted (2 * c + 1) slot next s row.2

-- where a test is under way, all stores of the update before were made
pub tells_by : (t : Tables) (asked : Option Entry) (place : Place) → t.stored ≤ stores_of t.code_words
    → MayBeAsked t asked → IsPlace t.code_words place → HasStore place
    → is_newest (phase_by asked t.tested t.code_words t.stored) place ≡ is_stored t place
tells_by t None place most may at has =
    row_tells t.code_words t.stored (phase_after t.code_words t.stored) place most
    (phase_row t.code_words t.stored) at has
tells_by t (Some entry) place most may at has =
    row_tells t.code_words t.stored phases.Idle place most (omega (arith, may.idle)) at has

-- the words in each phase
word_by : (t : Tables) (place : Place) → HasStore place → is_newest (phase_of t) place ≡ is_stored t place
    → word_at t place ≡ word_of_entry t (number_in (phase_of t) t place) place
word_by t place has e = sym (ap (λ b. word_of_entry t (cond b (newest t) (before t)) place) e)

pub phase_words : (t : Tables) (place : Place) → IsTables t → IsPlace t.code_words place
    → word_at t place ≡ word_of_entry t (number_in (phase_of t) t place) place
phase_words t (Quiet guest) is at = refl
phase_words t Epoch is at = word_by t Epoch tt (tells_by t t.asked Epoch is.stored_most is.asked_fits at tt)
phase_words t (Code index) is at =
    word_by t (Code index) tt (tells_by t t.asked (Code index) is.stored_most is.asked_fits at tt)
phase_words t (Tary index) is at =
    word_by t (Tary index) tt (tells_by t t.asked (Tary index) is.stored_most is.asked_fits at tt)
phase_words t (Bary slot) is at =
    word_by t (Bary slot) tt (tells_by t t.asked (Bary slot) is.stored_most is.asked_fits at tt)

-- one store more
next_test : (n s : ℕ) → n ≢ s → nat_lt n (s + 1) ≡ nat_lt n s
next_test n s other = elim (cases_lt n s) [
  | inl h ↦ lt-ltb n (s + 1) (omega arith) ∙ sym (lt-ltb n s h)
  | inr h ↦ le-ltb n (s + 1) (omega arith) ∙ sym (le-ltb n s h)
]

pub store_same : (t : Tables) (place : Place) → rank_at t.code_words place ≢ t.stored
    → word_at (one_more t) place ≡ word_at t place
store_same t place other =
    ap (λ b. word_of_entry t (cond b (newest t) (before t)) place)
    (next_test (rank_at t.code_words place) t.stored other)

pub store_new : (t : Tables) (place : Place) → rank_at t.code_words place ≡ t.stored
    → word_at (one_more t) place ≡ word_of_entry t (newest t) place
store_new t place is =
    ap (λ b. word_of_entry t (cond b (newest t) (before t)) place)
    (lt-ltb (rank_at t.code_words place) (t.stored + 1) (omega arith))

-- ranks of places are those of their words
pub rank_same : (c : ℕ) (place : Place) → IsPlace c place → IsStored c (word_number c place)
    → rank_at c place ≡ rank c (word_number c place)
rank_same c (Quiet guest) at stored = absurd (stored.apart (omega arith, omega arith))
rank_same c Epoch at stored = sym (rank-epoch c)
rank_same c (Code index) at stored = sym (rank-code c index at)
rank_same c (Tary index) at stored = sym (rank-tary c index at)
rank_same c (Bary slot) at stored = sym (rank-bary c slot)
