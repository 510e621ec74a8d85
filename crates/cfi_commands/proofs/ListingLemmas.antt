-- The text of an object that was read: whole words, few enough to be listed.
use Rattle.std.proofs.Common.{◌≡◌, ◌+◌, ◌%◌, ◌*◌, ◌≤◌, ℕ, List, length, ap, ◌∙◌, arith}
use Rattle.elf_read.specs.Header.{section_count}
use Rattle.elf_read.specs.Fault.{IsObject}
use Rattle.elf_read.specs.declared.object.Object.{Object}
use Rattle.cfi_word.specs.declared.limits.TheConstants.{MAX_WORDS}
use Rattle.cfi_aux.proofs.JoinedLists.{text_length, text_fours}

pub whole_text : (bytes : List ℕ) (object : Object) → IsObject bytes object → length object.text % 4 ≡ 0
whole_text bytes object is =
    let size = ap (λ (t : List ℕ). length t) is.kept.text ∙ text_length bytes is.sound in
    ap (λ (n : ℕ). n % 4) size ∙ text_fours bytes (section_count bytes) is.sound (omega arith)

pub short_text : (bytes : List ℕ) (object : Object) → IsObject bytes object → length object.text ≤ 4 * MAX_WORDS + 3
short_text bytes object is =
    let size = ap (λ (t : List ℕ). length t) is.kept.text ∙ text_length bytes is.sound in
    omega (arith, size, is.sound.words)
