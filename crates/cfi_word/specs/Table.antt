-- The words of the shared table by number: EPOCH, a QUIET word for each guest, then CODE, TARY and BARY.
-- CODE and TARY have a word for each code word, BARY one for each branch slot.
use Rattle.std.specs.Prelude.{◌≡◌, ℕ, ◌+◌, ◌*◌, ◌/◌, ◌%◌, ◌<◌, ◌≤◌}
use Rattle.cfi_word.specs.declared.layout.TheConstants.{EPOCH, FIRST_CODE}
use Rattle.cfi_word.specs.declared.limits.TheConstants.{GUESTS, MIN_CODE_WORDS, MAX_CODE_WORDS}
use Rattle.cfi_word.specs.declared.sizes.TheConstants.{CHECK_WORDS}

-- a number of code words that a table may have: a multiple of the least
pub record IsSize (code_words : ℕ) : Type 0 where
  pub multiple : code_words % MIN_CODE_WORDS ≡ 0
  pub least : MIN_CODE_WORDS ≤ code_words
  pub most : code_words ≤ MAX_CODE_WORDS

-- the number of branch slots: as many as the checks that fit, and one more
abbrev pub slots_of : (code_words : ℕ) → ℕ
slots_of code_words = code_words / CHECK_WORDS + 1

-- a word of the table, by its area and its place in it
pub data Place : Type 0 where
  Epoch : Place
  Quiet : (guest : ℕ) → Place
  Code : (index : ℕ) → Place
  Tary : (index : ℕ) → Place
  Bary : (slot : ℕ) → Place

-- the place is in the table
abbrev pub IsPlace : (code_words : ℕ) → Place → Type 0
IsPlace code_words Epoch = Unit {0}
IsPlace code_words (Quiet guest) = guest < GUESTS
IsPlace code_words (Code index) = index < code_words
IsPlace code_words (Tary index) = index < code_words
IsPlace code_words (Bary slot) = slot < slots_of code_words

-- the QUIET word of a guest, from 0
abbrev pub quiet_word : (guest : ℕ) → ℕ
quiet_word guest = 1 + guest

-- the CODE word of a code word, from 0
abbrev pub code_word : (index : ℕ) → ℕ
code_word index = FIRST_CODE + index

-- the TARY word of a code word
abbrev pub tary_word : (code_words index : ℕ) → ℕ
tary_word code_words index = FIRST_CODE + code_words + index

-- the BARY word of a branch slot, from 0
abbrev pub bary_word : (code_words slot : ℕ) → ℕ
bary_word code_words slot = FIRST_CODE + 2 * code_words + slot

-- the number of the word at a place
abbrev pub word_number : (code_words : ℕ) → Place → ℕ
word_number code_words Epoch = EPOCH
word_number code_words (Quiet guest) = quiet_word guest
word_number code_words (Code index) = code_word index
word_number code_words (Tary index) = tary_word code_words index
word_number code_words (Bary slot) = bary_word code_words slot

-- the number of all words: BARY is the last area
abbrev pub word_count : (code_words : ℕ) → ℕ
word_count code_words = bary_word code_words (slots_of code_words)

-- the word is one of CODE
abbrev pub IsCode : (code_words word : ℕ) → Type 0
IsCode code_words word = (FIRST_CODE ≤ word) × (word < FIRST_CODE + code_words)

-- the word is one of TARY
abbrev pub IsTary : (code_words word : ℕ) → Type 0
IsTary code_words word = (FIRST_CODE + code_words ≤ word) × (word < FIRST_CODE + 2 * code_words)

-- the word is one of BARY
abbrev pub IsBary : (code_words word : ℕ) → Type 0
IsBary code_words word = (FIRST_CODE + 2 * code_words ≤ word) × (word < word_count code_words)

-- the word is a QUIET word
abbrev pub IsQuiet : (word : ℕ) → Type 0
IsQuiet word = (1 ≤ word) × (word < FIRST_CODE)

-- the word lies in the area of the place
abbrev pub IsInArea : (code_words : ℕ) → Place → (word : ℕ) → Type 0
IsInArea code_words Epoch word = word ≡ EPOCH
IsInArea code_words (Quiet guest) word = IsQuiet word
IsInArea code_words (Code index) word = IsCode code_words word
IsInArea code_words (Tary index) word = IsTary code_words word
IsInArea code_words (Bary slot) word = IsBary code_words word
