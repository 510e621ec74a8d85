-- Places of the table, and the order of their stores.
use Rattle.std.proofs.Common.{◌≡◌, ◌≢◌, ℕ, ◌<◌, sym, ◌∙◌, arith}
use Rattle.cfi_word.specs.Rank.{rank, IsStored, stores_of}
use Rattle.cfi_word.specs.Table.{Place, Epoch, Quiet, Code, Tary, Bary, IsPlace, word_count, word_number}
use Rattle.cfi_word.proofs.RankLemmas.{same_words}
use Rattle.cfi_model.specs.Words.{HasStore, rank_at}
use Rattle.cfi_model.proofs.PhaseLemmas.{rank_same}

pub place_within : (c : ℕ) (place : Place) → IsPlace c place → word_number c place < word_count c
place_within c place at = grind arith

pub is_stored : (c : ℕ) (place : Place) → IsPlace c place → HasStore place → IsStored c (word_number c place)
is_stored c Epoch at has = record { within = omega arith; apart = λ quiet. absurd (omega (arith, quiet.0)) }
is_stored c (Code index) at has = record { within = omega arith; apart = λ quiet. absurd (omega (arith, quiet.1)) }
is_stored c (Tary index) at has = record { within = omega arith; apart = λ quiet. absurd (omega (arith, quiet.1)) }
is_stored c (Bary slot) at has = record { within = omega arith; apart = λ quiet. absurd (omega (arith, quiet.1)) }
is_stored c (Quiet guest) at has = absurd has

-- the store of a place is one of an update's
pub rank_most : (c : ℕ) (place : Place) → IsPlace c place → HasStore place → rank_at c place < stores_of c
rank_most c Epoch at has = omega arith
rank_most c (Code index) at has = omega arith
rank_most c (Tary index) at has = omega arith
rank_most c (Bary slot) at has = omega arith
rank_most c (Quiet guest) at has = absurd has

pub rank_is : (c : ℕ) (place : Place) → IsPlace c place → HasStore place
    → rank c (word_number c place) ≡ rank_at c place
rank_is c place at has = sym (rank_same c place at (is_stored c place at has))

-- no other place is stored at the same time
pub ranks_apart : (c : ℕ) (one other : Place) → IsPlace c one → IsPlace c other → HasStore one → HasStore other
    → word_number c one ≢ word_number c other → rank_at c one ≢ rank_at c other
ranks_apart c one other a b p q apart = λ e. apart (same_words c (word_number c one) (word_number c other)
    (is_stored c one a p) (is_stored c other b q) (rank_is c one a p ∙ (e ∙ sym (rank_is c other b q))))

-- a QUIET word is stored by no update
pub quiet_apart : (c guest : ℕ) (place : Place) → IsPlace c place → HasStore place → guest < 16
    → word_number c place ≢ word_number c (Quiet guest)
quiet_apart c guest Epoch at has low = λ e. omega (arith, e)
quiet_apart c guest (Code index) at has low = λ e. omega (arith, e)
quiet_apart c guest (Tary index) at has low = λ e. omega (arith, e)
quiet_apart c guest (Bary slot) at has low = λ e. omega (arith, e)
quiet_apart c guest (Quiet other) at has low = absurd has
