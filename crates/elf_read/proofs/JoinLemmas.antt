-- Where joined sections end.
use Rattle.std.proofs.Common.{◌≡◌, ◌+◌, ◌-◌, ◌<◌, ◌≤◌, ℕ, zero, suc, List, Bool, true, false, refl, ap, ⊎_elim, arith}
use Rattle.std.proofs.lemmas.Bool.{cases_Bool, cases_lt}
use Rattle.std.proofs.Math.Nat.{div-add-mod', mod-lt}
use Rattle.elf_read.specs.Places.{total_of, count_where}
use Rattle.elf_read.specs.Header.{section_count}
use Rattle.elf_read.specs.Section.{section_at, is_loaded, is_text, is_data, has_flag}
use Rattle.elf_read.specs.Join.{text_size, text_end, data_end, data_start, aligned, alignment_of, start_of}
use Rattle.elf_read.specs.Fault.{IsSound}
use Rattle.elf_read.specs.declared.section.TheConstants.{EXECINSTR}

-- a count is at most what is counted
pub count_where-le : (test : ℕ → Bool) (count : ℕ) → count_where test count ≤ count
count_where-le test zero = omega arith
count_where-le test (suc count) = ⊎_elim
    (λ is.
    let one : count_where test (suc count) ≡ count_where test count + 1 = rw is refl in
    omega (arith, one, count_where-le test count))
    (λ none.
    let same : count_where test (suc count) ≡ count_where test count + 0 = rw none refl in
    omega (arith, same, count_where-le test count))
    (cases_Bool (test count))

-- a part of a sum is at most the sum
pub total_of-part : (give : ℕ → ℕ) (k count : ℕ) → k < count → total_of give k + give k ≤ total_of give count
total_of-part give k zero lt = absurd (omega arith)
total_of-part give k (suc count) lt = ⊎_elim
    (λ below. let part = total_of-part give k count below in omega arith)
    (λ (last : count ≤ k).
    let same : k ≡ count = omega arith in
    let end : total_of give k ≡ total_of give count = ap (λ n. total_of give n) same in
    let here : give k ≡ give count = ap give same in
    omega (arith, end, here))
    (cases_lt k count)

-- an alignment is above 0
pub alignment-some : (bytes : List ℕ) (k : ℕ) → 0 < alignment_of bytes k
unfolding alignment_of
alignment-some bytes k = omega arith

-- a multiple of the alignment is no less than what it is made of
pub aligned-above : (n alignment : ℕ) → 0 < alignment → n ≤ aligned n alignment
unfolding aligned
aligned-above n alignment some =
    let whole = div-add-mod' (n + (alignment - 1)) alignment in
    let rest = mod-lt (n + (alignment - 1)) some in
    omega (arith, whole, rest)

-- data does not end before what it has
data_end-more : (bytes : List ℕ) (k : ℕ) → data_end bytes k ≤ data_end bytes (suc k)
data_end-more bytes k = ⊎_elim
    (λ is.
    let end : data_end bytes (suc k) ≡ data_start bytes k + (section_at bytes k).size = rw is refl in
    let above = aligned-above (data_end bytes k) (alignment_of bytes k) (alignment-some bytes k) in
    omega (arith, end, above))
    (λ none.
    let end : data_end bytes (suc k) ≡ data_end bytes k = rw none refl in
    omega (arith, end))
    (cases_Bool (is_data bytes k))

data_end-later : (bytes : List ℕ) (k more : ℕ) → data_end bytes k ≤ data_end bytes (k + more)
data_end-later bytes k zero = let same : k + 0 ≡ k = omega arith in rw same (omega arith)
data_end-later bytes k (suc more) =
    let later = data_end-later bytes k more in
    let next = data_end-more bytes (k + more) in
    let same : k + suc more ≡ suc (k + more) = omega arith in
    rw same (omega (arith, later, next))

pub data_end-part : (bytes : List ℕ) (k count : ℕ) → k < count → is_data bytes k ≡ true
    → data_start bytes k + (section_at bytes k).size ≤ data_end bytes count
data_end-part bytes k count lt is =
    let end : data_end bytes (suc k) ≡ data_start bytes k + (section_at bytes k).size = rw is refl in
    let later = data_end-later bytes (suc k) (count - suc k) in
    let all : suc k + (count - suc k) ≡ count = omega arith in
    let within : data_end bytes (suc k) ≤ data_end bytes count = rw all at later in
    omega (arith, end, within)

-- a loaded section is text or data
pub loaded_cases : (bytes : List ℕ) (k : ℕ) → is_loaded bytes k ≡ true → is_text bytes k ≡ false
    → is_data bytes k ≡ true
unfolding is_text is_data
loaded_cases bytes k loaded other =
    let flag : has_flag (section_at bytes k) EXECINSTR ≡ false = rw loaded at other in
    rw (loaded, flag) refl

-- within the limits, a loaded section ends before 524288
pub start-small : (bytes : List ℕ) (k : ℕ) → IsSound bytes → k < section_count bytes → is_loaded bytes k ≡ true
    → start_of bytes k + (section_at bytes k).size ≤ 524288
unfolding start_of text_size
start-small bytes k sound within loaded = ⊎_elim
    (λ is.
    let start : start_of bytes k ≡ text_end bytes k = rw is refl in
    let size : text_size bytes k ≡ (section_at bytes k).size = rw is refl in
    let part = total_of-part (text_size bytes) k (section_count bytes) within in
    omega (arith, start, size, part, sound.words))
    (λ other.
    let start : start_of bytes k ≡ data_start bytes k = rw other refl in
    let part = data_end-part bytes k (section_count bytes) within (loaded_cases bytes k loaded other) in
    omega (arith, start, part, sound.data_size))
    (cases_Bool (is_text bytes k))
