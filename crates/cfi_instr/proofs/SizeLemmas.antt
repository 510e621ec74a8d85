-- Sizes and places of units, with more or fewer long branches.
use Rattle.std.proofs.Common.{◌≡◌, ℕ, zero, suc, ◌+◌, ◌*◌, ◌<◌, ◌≤◌, Bool, true, false, cond, List, length, get_or, Option, Some, None, refl, ap, inl, inr, ⊎_elim, add-one, arith}
use Rattle.std.proofs.lemmas.Bool.{cases_Bool, cases_lt, false≢true}
use Rattle.std.proofs.lemmas.List.{get_or_past}
use Rattle.std.proofs.lemmas.List.FromFn.{get_or-map-range_with_len, length-map-range_with_len}
use Rattle.elf_read.specs.Places.{total_of}
use Rattle.rv_insn.specs.declared.insn.Insn.{Insn}
use Rattle.rv_insn.specs.declared.insn.Insn.TheVariants as insns
use Rattle.cfi_instr.specs.Words.{Words, insn_at, count_of}
use Rattle.cfi_instr.specs.Items.{is_inner}
use Rattle.cfi_instr.specs.declared.sizes.TheConstants.{MAX_WORDS}
use Rattle.cfi_instr.specs.Sizes.{is_long, item_size, size_by, size_at, words_before, offset_of, offsets_of, AreSmall}
use Rattle.cfi_instr.specs.Reach.{IsWithin}

-- ---- sums

pub total-grows : (give : ℕ → ℕ) (n m : ℕ) → n ≤ m → total_of give n ≤ total_of give m
total-grows give n zero le =
    let same : n ≡ 0 = omega arith in
    let is : total_of give n ≡ total_of give 0 = ap (total_of give) same in
    omega arith
total-grows give n (suc m) le = ⊎_elim
    (λ (below : n < suc m). let part = total-grows give n m (omega arith) in omega arith)
    (λ (above : suc m ≤ n).
    let same : n ≡ suc m = omega arith in
    let is : total_of give n ≡ total_of give (suc m) = ap (total_of give) same in
    omega arith)
    (cases_lt n (suc m))

pub total-below : (f g : ℕ → ℕ) → ((k : ℕ) → f k ≤ g k) → (n : ℕ) → total_of f n ≤ total_of g n
total-below f g le zero = omega arith
total-below f g le (suc n) =
    let part = total-below f g le n in
    let here = le n in
    omega arith

-- what lies between two numbers grows too
pub total-part : (f g : ℕ → ℕ) → ((k : ℕ) → f k ≤ g k) → (u v : ℕ) → u ≤ v
    → total_of f v + total_of g u ≤ total_of g v + total_of f u
total-part f g le u zero within =
    let same : u ≡ 0 = omega arith in
    let fs : total_of f u ≡ total_of f 0 = ap (total_of f) same in
    let gs : total_of g u ≡ total_of g 0 = ap (total_of g) same in
    omega arith
total-part f g le u (suc v) within = ⊎_elim
    (λ (below : u < suc v).
    let part = total-part f g le u v (omega arith) in
    let here = le v in
    omega arith)
    (λ (above : suc v ≤ u).
    let same : u ≡ suc v = omega arith in
    let fs : total_of f u ≡ total_of f (suc v) = ap (total_of f) same in
    let gs : total_of g u ≡ total_of g (suc v) = ap (total_of g) same in
    omega arith)
    (cases_lt u (suc v))

-- ---- sizes

branch-grows : (a b : Bool) → (a ≡ true → b ≡ true) → cond a 2 1 ≤ cond b 2 1
branch-grows false false h = omega arith
branch-grows false true h = omega arith
branch-grows true true h = omega arith
branch-grows true false h = absurd (false≢true (h refl))

item_size-grows : (a b : Bool) → (a ≡ true → b ≡ true) → (insn : Insn) → item_size a insn ≤ item_size b insn
item_size-grows a b h (insns.Branch cond rs1 rs2 off) = branch-grows a b h
item_size-grows a b h insn = omega arith

size_by-grows : (a b : Bool) → (a ≡ true → b ≡ true) → (insn : Option Insn) → size_by a insn ≤ size_by b insn
size_by-grows a b h None = omega arith
size_by-grows a b h (Some insn) = item_size-grows a b h insn

pub size_at-grows : (t : Words) (long other : List Bool) → IsWithin long other → (w : ℕ)
    → size_at t long w ≤ size_at t other w
unfolding size_at
size_at-grows t long other within w = elim (cases_Bool (is_inner t w)) [
  | inl inner ↦ rw inner (omega arith)
  | inr outer ↦ rw outer (size_by-grows (is_long long w) (is_long other w) (within w) (insn_at t w))
]

-- ---- places and offsets

pub place-grows : (t : Words) (long other : List Bool) → IsWithin long other → (w : ℕ)
    → words_before t long w ≤ words_before t other w
place-grows t long other within w =
    total-below (size_at t long) (size_at t other) (size_at-grows t long other within) w

pub place-part : (t : Words) (long other : List Bool) → IsWithin long other → (u v : ℕ) → u ≤ v
    → words_before t long v + words_before t other u ≤ words_before t other v + words_before t long u
place-part t long other within u v le =
    total-part (size_at t long) (size_at t other) (size_at-grows t long other within) u v le

pub place-more : (t : Words) (long : List Bool) (w : ℕ) → words_before t long (w + 1) ≡ words_before t long w + size_at t long w
place-more t long w = ap (words_before t long) (add-one w)

pub offset-read : (t : Words) (long : List Bool) (w : ℕ) → w < count_of t + 1
    → get_or (offsets_of t long) w 0 ≡ 4 * words_before t long w
offset-read t long w lt = get_or-map-range_with_len (offset_of t long) 0 (count_of t + 1) w w 0 lt (omega arith)

pub offset-past : (t : Words) (long : List Bool) (w : ℕ) → count_of t + 1 ≤ w → get_or (offsets_of t long) w 0 ≡ 0
offset-past t long w le =
    let size : length (offsets_of t long) ≡ count_of t + 1 =
    length-map-range_with_len (offset_of t long) 0 (count_of t + 1) in
    get_or_past (offsets_of t long) w 0 (omega arith)

-- where the whole output fits, no offset is above the limit
pub offsets-small : (t : Words) (long : List Bool) → words_before t long (count_of t) ≤ MAX_WORDS
    → AreSmall (offsets_of t long)
offsets-small t long fits = λ w. ⊎_elim
    (λ (below : w < count_of t + 1).
    let read = offset-read t long w below in
    let part : words_before t long w ≤ words_before t long (count_of t) =
    total-grows (size_at t long) w (count_of t) (omega arith) in
    omega arith)
    (λ (above : count_of t + 1 ≤ w). let read = offset-past t long w above in omega arith)
    (cases_lt w (count_of t + 1))
