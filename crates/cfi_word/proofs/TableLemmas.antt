-- Each word of the table is at a place.
use Rattle.std.proofs.Common.{◌≡◌, ℕ, ◌+◌, ◌-◌, ◌*◌, ◌<◌, ◌≤◌, ⊎_elim, arith}
use Rattle.std.proofs.lemmas.Bool.{cases_lt}
use Rattle.cfi_word.specs.declared.layout.TheConstants.{FIRST_CODE}
use Rattle.cfi_word.specs.Table.{Place, Epoch, Quiet, Code, Tary, Bary, IsPlace, word_number, word_count}

-- the word has a place
abbrev pub HasPlace : (code_words word : ℕ) → Type 0
HasPlace code_words word = (place : Place) × IsPlace code_words place × (word_number code_words place ≡ word)

in_bary : (code_words word : ℕ) → FIRST_CODE + 2 * code_words ≤ word → word < word_count code_words
    → HasPlace code_words word
in_bary code_words word low high = (Bary (word - (FIRST_CODE + 2 * code_words)), omega arith, omega arith)

in_tary : (code_words word : ℕ) → FIRST_CODE + code_words ≤ word → word < FIRST_CODE + 2 * code_words
    → HasPlace code_words word
in_tary code_words word low high = (Tary (word - (FIRST_CODE + code_words)), omega arith, omega arith)

in_code : (code_words word : ℕ) → FIRST_CODE ≤ word → word < FIRST_CODE + code_words → HasPlace code_words word
in_code code_words word low high = (Code (word - FIRST_CODE), omega arith, omega arith)

in_quiet : (code_words word : ℕ) → 1 ≤ word → word < FIRST_CODE → HasPlace code_words word
in_quiet code_words word low high = (Quiet (word - 1), omega arith, omega arith)

at_epoch : (code_words word : ℕ) → word < 1 → HasPlace code_words word
at_epoch code_words word high = (Epoch, tt, omega arith)

-- from the last area to the first
pub HasPlace-below : (code_words word : ℕ) → word < word_count code_words → HasPlace code_words word
HasPlace-below code_words word within =
    let quiet = λ (h : word < FIRST_CODE).
    ⊎_elim (at_epoch code_words word) (λ high. in_quiet code_words word high h) (cases_lt word 1) in
    let code = λ (h : word < FIRST_CODE + code_words).
    ⊎_elim quiet (λ high. in_code code_words word high h) (cases_lt word FIRST_CODE) in
    let tary = λ (h : word < FIRST_CODE + 2 * code_words).
    ⊎_elim code (λ high. in_tary code_words word high h) (cases_lt word (FIRST_CODE + code_words)) in
    ⊎_elim tary (λ high. in_bary code_words word high within) (cases_lt word (FIRST_CODE + 2 * code_words))
