-- Reading what stands at a place of a list.
use Rattle.std.proofs.Common.{◌≡◌, ◌+◌, ◌*◌, ◌<◌, ◌≤◌, ◌++◌, ⊎_elim, ℕ, zero, suc, List, [], ◌∷◌, length, take, drop, get_or, refl, sym, ap, ◌∙◌, length-append, append_assoc, append-nil, arith}
use Rattle.std.specs.List.{flat_map}
use Rattle.std.proofs.lemmas.Bool.{cases_lt}
use Rattle.std.proofs.lemmas.List.{drop-append-le, get_or-drop}
use Rattle.std.proofs.Math.Nat.{mul-le-mul_left}
use Rattle.std.proofs.Math.Seq.{drop-append_seam, drop-append-add, drop-length}
use Rattle.byteorder.specs.Endian.{little_from}
use Rattle.elf_read.proofs.WordLemmas.{little_from-drop}
use Rattle.elf_read.specs.Words.{u16_at, u32_at}
use Rattle.elf_read.specs.Places.{joined}
use Rattle.elf_write.proofs.SizeLemmas.{length-joined}

-- words, half words and bytes of what stands at a place
pub u32_in : (bytes entry : List ℕ) (at j : ℕ) → drop at bytes ≡ entry → u32_at bytes (at + j) ≡ u32_at entry j
unfolding u32_at
u32_in bytes entry at j is = sym (little_from-drop 4 at j bytes) ∙ ap (λ xs. little_from j 4 xs) is

pub u16_in : (bytes entry : List ℕ) (at j : ℕ) → drop at bytes ≡ entry → u16_at bytes (at + j) ≡ u16_at entry j
unfolding u16_at
u16_in bytes entry at j is = sym (little_from-drop 2 at j bytes) ∙ ap (λ xs. little_from j 2 xs) is

pub byte_in : (bytes entry : List ℕ) (at j : ℕ) → drop at bytes ≡ entry → get_or bytes (at + j) 0 ≡ get_or entry j 0
byte_in bytes entry at j is = sym (get_or-drop at bytes j 0) ∙ ap (λ (xs : List ℕ). get_or xs j 0) is

-- entry k of a table of entries of one size
pub drop-joined : (give : ℕ → List ℕ) (size count k : ℕ) → ((j : ℕ) → length (give j) ≡ size) → k < count
    → drop (size * k) (joined give count) ≡ give k ++ drop (size * suc k) (joined give count)
drop-joined give size zero k each within = absurd (omega arith)
drop-joined give size (suc count) k each within =
    let front = joined give count in
    let len = length-joined give size count each in
    ⊎_elim
    (λ (below : k < count).
    let earlier = drop-joined give size count k each below in
    let product : size * suc k ≡ size * k + size = omega arith in
    let le : size * suc k ≤ size * count = mul-le-mul_left size below in
    let here : drop (size * k) (front ++ give count) ≡ drop (size * k) front ++ give count =
    drop-append-le (size * k) front (give count) (omega (arith, len, le, product)) in
    let next : drop (size * suc k) (front ++ give count) ≡ drop (size * suc k) front ++ give count =
    drop-append-le (size * suc k) front (give count) (omega (arith, len, le)) in
    here ∙ ap (λ (xs : List ℕ). xs ++ give count) earlier
    ∙ append_assoc (give k) (drop (size * suc k) front) (give count)
    ∙ ap (λ (xs : List ℕ). give k ++ xs) (sym next))
    (λ (last : count ≤ k).
    let same : k ≡ count = omega arith in
    let there : size * k ≡ length front = ap (λ n. size * n) same ∙ sym len in
    let product : size * suc k ≡ size * k + size = omega arith in
    let sum = length-append front (give count) in
    let entry = each count in
    let all : size * suc k ≡ length (front ++ give count) = omega (arith, product, sum, entry, there) in
    let here : drop (size * k) (front ++ give count) ≡ give count = ap (λ n. drop n (front ++ give count)) there
    ∙ drop-append_seam front (give count) in
    let none : drop (size * suc k) (front ++ give count) ≡ [] = ap (λ n. drop n (front ++ give count)) all
    ∙ drop-length (front ++ give count) in
    here ∙ ap give (sym same) ∙ sym (append-nil (give k)) ∙ ap (λ (xs : List ℕ). give k ++ xs) (sym none))
    (cases_lt k count)

-- what stands after the pieces before the k-th
pub drop-flat_map : {X : Type 0} (f : X → List ℕ) (xs : List X) (k : ℕ) (d : X) → k < length xs
    → drop (length (flat_map f (take k xs))) (flat_map f xs) ≡ f (get_or xs k d) ++ flat_map f (drop (suc k) xs)
drop-flat_map f [] k d within = absurd (omega arith)
drop-flat_map f (x ∷ xs) zero d within = refl
drop-flat_map f (x ∷ xs) (suc k) d within =
    let rest = drop-flat_map f xs k d (omega arith) in
    let before = flat_map f (take k xs) in
    let sum = length-append (f x) before in
    rw sum (drop-append-add (f x) (flat_map f xs) (length before) ∙ rest)
