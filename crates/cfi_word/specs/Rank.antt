-- The order in which an update stores: the CODE words, the TARY words, EPOCH, the BARY words. QUIET words are apart,
-- since the guests store them. A word is new exactly where its rank is below the number of stores that were made.
use Rattle.std.specs.Prelude.{ℕ, ◌+◌, ◌-◌, ◌*◌, ◌<◌, ◌==◌, nat_lt, if◌then◌else◌}
use Rattle.cfi_word.specs.declared.layout.TheConstants.{EPOCH, FIRST_CODE}
use Rattle.cfi_word.specs.Table.{IsQuiet, slots_of, word_count, bary_word}

-- how many stores of an update come before that of the word
unfoldable pub rank : (code_words word : ℕ) → ℕ
rank code_words word =
    if word == EPOCH then 2 * code_words
    else (if nat_lt word (bary_word code_words 0) then word - FIRST_CODE else word + 1 - FIRST_CODE)

-- the number of stores of a whole update
abbrev pub stores_of : (code_words : ℕ) → ℕ
stores_of code_words = 2 * code_words + 1 + slots_of code_words

-- a word that updates store
pub record IsStored (code_words word : ℕ) : Type 0 where
  pub within : word < word_count code_words
  pub apart : IsQuiet word → ⊥
