-- How many bytes the text has that joined modules make.
use Rattle.std.proofs.Common.{◌≡◌, ◌∙◌, ℕ, ◌+◌, ◌*◌, ◌%◌, List, [], ◌∷◌, length, refl, ap, arith, length-append, length-set}
use Rattle.std.specs.Prelude.{slice_set}
use Rattle.std.specs.List.{flat_map}
use Rattle.cfi_type_table.specs.Spelling.{word}
use Rattle.cfi_place.specs.Placed.{bytes_as_words}
use Rattle.cfi_place.specs.Slots.{checks_from, with_slot, with_slots}
use Rattle.cfi_place.proofs.PlacingLemmas.{length-words_in}
use Rattle.cfi_link.specs.Joined.{Joined}
use Rattle.cfi_link.specs.Linked.{IsTextOf}

length-set_both : (words : List ℕ) (i j x y : ℕ) → length (slice_set (slice_set words i x) j y) ≡ length words
length-set_both words i j x y = length-set (slice_set words i x) j y ∙ length-set words i x

length-with_slots : (slot : ℕ) (places words : List ℕ) → length (with_slots slot places words) ≡ length words
length-with_slots slot [] words = refl
length-with_slots slot (at ∷ places) words =
    let one : length (with_slot at slot words) ≡ length words = length-set_both words (at + 3) (at + 4) _ _ in
    length-with_slots (slot + 1) places (with_slot at slot words) ∙ one

length-spelled : (words : List ℕ) → length (flat_map word words) ≡ 4 * length words
length-spelled [] = refl
length-spelled (w ∷ words) =
    let rest = length-spelled words in
    let one : length (word w) ≡ 4 = refl in
    let both = length-append (word w) (flat_map word words) in
    omega (arith, rest, one, both)

pub text_size : (joined : Joined) (bytes : List ℕ) → length joined.text % 4 ≡ 0 → IsTextOf joined bytes
    → length bytes ≡ length joined.text
text_size joined bytes whole text =
    let code = text.slots in
    let spelled = ap length text.spelled ∙ length-spelled text.words in
    let slots = ap length code.2 ∙ length-with_slots 0 (checks_from 0 code.0) (bytes_as_words text.applied) in
    let words = length-words_in text.applied in
    omega (arith, spelled, slots, words, text.size, whole)
