-- The order of an update's stores.
use Rattle.std.proofs.Common.{◌≡◌, ℕ, ◌+◌, ◌*◌, ◌<◌, arith}
use Rattle.std.proofs.lemmas.Bool.Decides.{nat_tests}
use Rattle.cfi_word.specs.Table.{code_word, tary_word, bary_word}
use Rattle.cfi_word.specs.Rank.{rank, IsStored, stores_of}

pub rank-code : (code_words index : ℕ) → index < code_words → rank code_words (code_word index) ≡ index
unfolding rank
rank-code code_words index h = grind (arith, nat_tests)

pub rank-tary : (code_words index : ℕ) → index < code_words
    → rank code_words (tary_word code_words index) ≡ code_words + index
unfolding rank
rank-tary code_words index h = grind (arith, nat_tests)

pub rank-epoch : (code_words : ℕ) → rank code_words 0 ≡ 2 * code_words
unfolding rank
rank-epoch code_words = grind (arith, nat_tests)

pub rank-bary : (code_words slot : ℕ) → rank code_words (bary_word code_words slot) ≡ 2 * code_words + 1 + slot
unfolding rank
rank-bary code_words slot = grind (arith, nat_tests)

-- a stored word's store is one of the update's
pub rank-lt : (code_words word : ℕ) → IsStored code_words word → rank code_words word < stores_of code_words
unfolding rank
rank-lt code_words word h = grind (arith, nat_tests)

-- two words are not stored at once
pub same_words : (code_words one other : ℕ) → IsStored code_words one → IsStored code_words other
    → rank code_words one ≡ rank code_words other → one ≡ other
unfolding rank
same_words code_words one other h k e = grind (arith, nat_tests)
