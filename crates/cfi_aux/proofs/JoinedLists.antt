-- What holds of joined lists, and how long the joined text and data of a sound file are.
use Rattle.std.proofs.Common.{◌≡◌, ◌+◌, ◌-◌, ◌%◌, ◌<◌, ◌≤◌, ◌==◌, ◌||◌, not, ℕ, zero, suc, List, [], length, true, false, All, replicate, refl, ◌∙◌, ⊎_elim, arith, length-append}
use Rattle.std.proofs.lemmas.Bool.{cases_Bool, and_parts, eqb-true, not-false}
use Rattle.std.proofs.lemmas.List.{length-replicate}
use Rattle.std.proofs.lemmas.List.Elements.{All-append, All-from_recursion}
use Rattle.elf_read.specs.Places.{joined, total_of}
use Rattle.elf_read.specs.Header.{section_count}
use Rattle.elf_read.specs.Section.{section_at, is_loaded, is_text, is_data, is_kept}
use Rattle.elf_read.specs.BadSection.{is_bad_text}
use Rattle.elf_read.specs.Join.{text_of, text_size, text_end, joined_text, data_of, data_contents, data_end, data_start, alignment_of}
use Rattle.elf_read.specs.Fault.{IsSound}
use Rattle.elf_read.specs.declared.section.TheConstants.{NOBITS}
use Rattle.elf_read.proofs.SectionLemmas.{or_false, and_false, good_section}
use Rattle.elf_read.proofs.RelaLemmas.{contents_within, length-contents}
use Rattle.elf_read.proofs.JoinLemmas.{aligned-above, alignment-some}

-- what holds of each part holds of the whole
pub joined_all : {X : Type 0} (P : X → Type 0) (give : ℕ → List X) (count : ℕ)
    → ((k : ℕ) → k < count → All P (give k)) → All P (joined give count)
joined_all P give zero h = All-from_recursion P [] tt
joined_all P give (suc count) h =
    All-append P (joined give count) (give count) (joined_all P give count (λ k lt. h k (omega arith)))
    (h count (omega arith))

pub joined_length : {X : Type 0} (give : ℕ → List X) (size : ℕ → ℕ) (count : ℕ)
    → ((k : ℕ) → k < count → length (give k) ≡ size k) → length (joined give count) ≡ total_of size count
joined_length give size zero h = refl
joined_length give size (suc count) h =
    let before = joined_length give size count (λ k lt. h k (omega arith)) in
    let here = h count (omega arith) in
    omega (arith, length-append (joined give count) (give count), before, here)

pub total_fours : (size : ℕ → ℕ) (count : ℕ) → ((k : ℕ) → k < count → size k % 4 ≡ 0) → total_of size count % 4 ≡ 0
total_fours size zero h = refl
total_fours size (suc count) h =
    let before = total_fours size count (λ k lt. h k (omega arith)) in
    let here = h count (omega arith) in
    omega (arith, before, here)

-- ---- text

text_loaded : (bytes : List ℕ) (k : ℕ) → is_text bytes k ≡ true → is_loaded bytes k ≡ true
unfolding is_text
text_loaded bytes k is = (and_parts (is_loaded bytes k) _ is).0

data_loaded : (bytes : List ℕ) (k : ℕ) → is_data bytes k ≡ true → is_loaded bytes k ≡ true
unfolding is_data
data_loaded bytes k is = (and_parts (is_loaded bytes k) _ is).0

loaded_kept : (bytes : List ℕ) (k : ℕ) → is_loaded bytes k ≡ true → is_kept bytes k ≡ true
unfolding is_kept
loaded_kept bytes k is = rw is refl

-- a text section is stored, in whole words
pub text_stored : (bytes : List ℕ) (k : ℕ) → IsSound bytes → k < section_count bytes → is_text bytes k ≡ true
    → (((section_at bytes k).kind == NOBITS) ≡ false) × ((section_at bytes k).size % 4 ≡ 0)
unfolding is_bad_text
text_stored bytes k sound within is =
    let section = section_at bytes k in
    let good = (good_section bytes k (sound.places.kinds.relas.symbols.sections.good k within)).text in
    let parts = or_false (section.kind == NOBITS) (not (section.size % 4 == 0))
    (and_false (is_text bytes k) ((section.kind == NOBITS) || not (section.size % 4 == 0)) is good) in
    (parts.0, eqb-true _ _ (not-false _ parts.1))

text_part : (bytes : List ℕ) (k : ℕ) → IsSound bytes → k < section_count bytes
    → length (text_of bytes k) ≡ text_size bytes k
unfolding text_of text_size
text_part bytes k sound within = ⊎_elim
    (λ is.
    let stored = text_stored bytes k sound within is in
    let kept = loaded_kept bytes k (text_loaded bytes k is) in
    rw is (length-contents bytes k
    (contents_within bytes k sound.places.kinds.relas.symbols.sections within kept stored.0)))
    (λ other. rw other refl)
    (cases_Bool (is_text bytes k))

text_four : (bytes : List ℕ) (k : ℕ) → IsSound bytes → k < section_count bytes → text_size bytes k % 4 ≡ 0
unfolding text_size
text_four bytes k sound within = ⊎_elim
    (λ is. rw is (text_stored bytes k sound within is).1)
    (λ other. rw other refl)
    (cases_Bool (is_text bytes k))

pub text_length : (bytes : List ℕ) → IsSound bytes → length (joined_text bytes) ≡ text_end bytes (section_count bytes)
text_length bytes sound =
    joined_length (text_of bytes) (text_size bytes) (section_count bytes) (λ k within. text_part bytes k sound within)

pub text_fours : (bytes : List ℕ) (k : ℕ) → IsSound bytes → k ≤ section_count bytes → text_end bytes k % 4 ≡ 0
text_fours bytes k sound le = total_fours (text_size bytes) k (λ j lt. text_four bytes j sound (omega arith))

-- ---- data

data_stored : (bytes : List ℕ) (k : ℕ) → IsSound bytes → k < section_count bytes → is_data bytes k ≡ true
    → length (data_contents bytes k) ≡ (section_at bytes k).size
unfolding data_contents
data_stored bytes k sound within is = ⊎_elim
    (λ empty. rw empty (length-replicate (section_at bytes k).size 0))
    (λ stored.
    let kept = loaded_kept bytes k (data_loaded bytes k is) in
    rw stored (length-contents bytes k
    (contents_within bytes k sound.places.kinds.relas.symbols.sections within kept stored)))
    (cases_Bool ((section_at bytes k).kind == NOBITS))

data_step : (bytes : List ℕ) (k : ℕ) → IsSound bytes → k < section_count bytes
    → data_end bytes k + length (data_of bytes k) ≡ data_end bytes (suc k)
unfolding data_of
data_step bytes k sound within = ⊎_elim
    (λ is.
    let above = aligned-above (data_end bytes k) (alignment_of bytes k) (alignment-some bytes k) in
    let size = data_stored bytes k sound within is in
    let gap : List ℕ = replicate (data_start bytes k - data_end bytes k) 0 in
    let gap_size : length gap ≡ data_start bytes k - data_end bytes k = length-replicate _ 0 in
    rw is (omega (arith, above, size, gap_size, length-append gap (data_contents bytes k))))
    (λ other. rw other (omega arith))
    (cases_Bool (is_data bytes k))

pub data_length : (bytes : List ℕ) (count : ℕ) → IsSound bytes → count ≤ section_count bytes
    → length (joined (data_of bytes) count) ≡ data_end bytes count
data_length bytes zero sound le = refl
data_length bytes (suc count) sound le =
    let before = data_length bytes count sound (omega arith) in
    let step = data_step bytes count sound (omega arith) in
    length-append (joined (data_of bytes) count) (data_of bytes count) ∙ omega (arith, before, step)
