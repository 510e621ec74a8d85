-- The bytes of code, and the words in them.
use Rattle.std.proofs.Common.{◌≡◌, ℕ, ◌+◌, ◌*◌, ◌/◌, ◌^◌, ◌<◌, All, List, [], ◌∷◌, ◌++◌, take, drop, length, get_or, refl, ap, sym, ◌∙◌, arith, append_assoc, length-append}
use Rattle.std.specs.Int.{w32, from_le_bytes}
use Rattle.std.specs.List.{flat_map}
use Rattle.std.proofs.lemmas.List.{take-append-drop, drop_more, take_at, drop_at, same_lists, length-take-le}
use Rattle.std.proofs.lemmas.List.Concat.{flat_map-append}
use Rattle.std.proofs.lemmas.List.FromFn.{get_or-map-range_with_len}
use Rattle.std.proofs.lemmas.Nat.{from_le_bytes-to_le_bytes_4}
use Rattle.cfi_type_table.specs.Spelling.{word}
use Rattle.rv_reloc.specs.Bytes.{word_at, with_word}
use Rattle.cfi_place.specs.Placed.{bytes_as_words}
use Rattle.cfi_place.proofs.PlacingLemmas.{length-words_in}

pub length-spelled : (words : List ℕ) → length (flat_map word words) ≡ 4 * length words
length-spelled [] = refl
length-spelled (w ∷ words) =
    let one : length (word w) ≡ 4 = refl in
    omega (arith, length-spelled words, one, length-append (word w) (flat_map word words))

-- ---- a word among bytes

pub word-here : (front rest : List ℕ) (at n : ℕ) → length front ≡ at → n < 2 ^ 32
    → word_at at (front ++ (word n ++ rest)) ≡ n
unfolding word_at
word-here front rest at n is small =
    let four : length (word n) ≡ 4 = refl in
    ap (λ (bytes : List ℕ). from_le_bytes w32 (take 4 bytes)) (drop_at front (word n ++ rest) at is)
    ∙ ap (from_le_bytes w32) (take_at (word n) rest 4 four)
    ∙ from_le_bytes-to_le_bytes_4 n small

pub word-set : (front rest : List ℕ) (at n new : ℕ) → length front ≡ at
    → with_word at new (front ++ (word n ++ rest)) ≡ front ++ (word new ++ rest)
unfolding with_word
word-set front rest at n new is =
    let bytes = front ++ (word n ++ rest) in
    let four : length (word n) ≡ 4 = refl in
    let both : length (front ++ word n) ≡ at + 4 = omega (arith, length-append front (word n), is, four) in
    let same : bytes ≡ (front ++ word n) ++ rest = sym (append_assoc front (word n) rest) in
    let after : drop (at + 4) bytes ≡ rest =
    ap (drop (at + 4)) same ∙ drop_at (front ++ word n) rest (at + 4) both in
    ap (λ (xs : List ℕ). xs ++ word new ++ drop (at + 4) bytes) (take_at front (word n ++ rest) at is)
    ∙ ap (λ (xs : List ℕ). front ++ word new ++ xs) after
    ∙ append_assoc front (word new) rest

-- ---- all words

-- the words before one, and those after it
split-at : (words : List ℕ) (k d : ℕ) → k < length words
    → flat_map word words ≡ flat_map word (take k words) ++ (word (get_or words k d) ++ flat_map word (drop (k + 1) words))
split-at words k d within =
    ap (flat_map word) (sym (take-append-drop k words) ∙ ap (λ (xs : List ℕ). take k words ++ xs) (drop_more words k d within))
    ∙ flat_map-append word (take k words) (get_or words k d ∷ drop (k + 1) words)

word-read : (words : List ℕ) (k d : ℕ) → k < length words → All (λ n. n < 2 ^ 32) words
    → word_at (4 * k) (flat_map word words) ≡ get_or words k d
word-read words k d within small =
    let front : length (flat_map word (take k words)) ≡ 4 * k =
    omega (arith, length-spelled (take k words), length-take-le k words (omega (arith, within))) in
    ap (word_at (4 * k)) (split-at words k d within)
    ∙ word-here (flat_map word (take k words)) (flat_map word (drop (k + 1) words)) (4 * k) (get_or words k d) front
    (small k d within)

pub words-spelled : (words : List ℕ) → All (λ n. n < 2 ^ 32) words → bytes_as_words (flat_map word words) ≡ words
words-spelled words small =
    let bytes = flat_map word words in
    let count : length bytes / 4 ≡ length words = omega (arith, length-spelled words) in
    let size = length-words_in bytes in
    same_lists (bytes_as_words bytes) words (size ∙ count)
    (λ k d inside.
    let within : k < length words = omega (arith, inside, size, count) in
    get_or-map-range_with_len (λ j. word_at (4 * j) bytes) 0 (length bytes / 4) k k d (omega (arith, within, count))
    (omega arith)
    ∙ word-read words k d within small)
