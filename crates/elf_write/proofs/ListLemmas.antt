-- What the numbers below a count give together.
use Rattle.std.proofs.Common.{◌≡◌, ◌≢◌, ◌+◌, ◌-◌, ◌*◌, ◌<◌, ◌≤◌, ◌++◌, ℕ, zero, suc, Bool, cond, List, [], ◌∷◌, length, take, get_or, refl, sym, ap, ◌∙◌, arith, length-append, append_assoc, append-nil}
use Rattle.std.specs.List.{flat_map}
use Rattle.std.proofs.lemmas.List.{take_more}
use Rattle.std.proofs.Math.Seq.{take-length}
use Rattle.elf_read.specs.Places.{joined, total_of, count_where}

-- numbers that give nothing add nothing
pub joined-past : {X : Type 0} (give : ℕ → List X) (from more : ℕ) → ((k : ℕ) → from ≤ k → k < from + more
    → give k ≡ []) → joined give (from + more) ≡ joined give from
joined-past give from zero none =
    let same : from + 0 ≡ from = omega arith in
    ap (λ n. joined give n) same
joined-past give from (suc more) none =
    let next : from + suc more ≡ suc (from + more) = omega arith in
    let last : give (from + more) ≡ [] = none (from + more) (omega arith) (omega arith) in
    let before = joined-past give from more (λ k low high. none k low (omega arith)) in
    ap (λ n. joined give n) next ∙ ap (λ xs. joined give (from + more) ++ xs) last
    ∙ append-nil (joined give (from + more)) ∙ before

-- where one number alone gives something, that is all
pub joined-only : {X : Type 0} (give : ℕ → List X) (count i : ℕ) → i < count → ((k : ℕ) → k < count → k ≢ i
    → give k ≡ []) → joined give count ≡ give i
joined-only give count i within none =
    let before = joined-past give 0 i (λ k low high. none k (omega arith) (λ same. absurd (omega arith))) in
    let after = joined-past give (suc i) (count - suc i) (λ k low high. none k (omega arith) (λ same. absurd
    (omega arith))) in
    let all : suc i + (count - suc i) ≡ count = omega arith in
    let start : 0 + i ≡ i = omega arith in
    let empty : joined give i ≡ [] = (rw start at before) in
    (rw all at after) ∙ ap (λ xs. xs ++ give i) empty

-- where two neighbours alone do, it is what they give
pub joined-two : {X : Type 0} (give : ℕ → List X) (count i : ℕ) → suc i < count → ((k : ℕ) → k < count → k ≢ i
    → k ≢ suc i → give k ≡ []) → joined give count ≡ give i ++ give (suc i)
joined-two give count i within none =
    let before = joined-past give 0 i (λ k low high. none k (omega arith) (λ same. absurd (omega arith))
    (λ same. absurd (omega arith))) in
    let after = joined-past give (suc (suc i)) (count - suc (suc i)) (λ k low high. none k (omega arith)
    (λ same. absurd (omega arith)) (λ same. absurd (omega arith))) in
    let all : suc (suc i) + (count - suc (suc i)) ≡ count = omega arith in
    let start : 0 + i ≡ i = omega arith in
    let empty : joined give i ≡ [] = (rw start at before) in
    (rw all at after) ∙ ap (λ xs. (xs ++ give i) ++ give (suc i)) empty

-- a sum of lengths is a length
pub total-length : {X : Type 0} (sizes : ℕ → ℕ) (give : ℕ → List X) (count : ℕ) → ((k : ℕ) → k < count
    → sizes k ≡ length (give k)) → total_of sizes count ≡ length (joined give count)
total-length sizes give zero each = refl
total-length sizes give (suc count) each =
    let before = total-length sizes give count (λ k within. each k (omega arith)) in
    let here = each count (omega arith) in
    let sum = length-append (joined give count) (give count) in
    omega (arith, before, here, sum)

pub count-length : {X : Type 0} (test : ℕ → Bool) (give : ℕ → List X) (count : ℕ) → ((k : ℕ) → k < count
    → length (give k) ≡ cond (test k) 1 0) → count_where test count ≡ length (joined give count)
count-length test give zero each = refl
count-length test give (suc count) each =
    let before = count-length test give count (λ k within. each k (omega arith)) in
    let here = each count (omega arith) in
    let sum = length-append (joined give count) (give count) in
    omega (arith, before, here, sum)

-- the elements of a list, one by one
joined-take : {X : Type 0} (give : ℕ → List X) (xs : List X) (d : X) (n : ℕ) → n ≤ length xs → ((k : ℕ) → k < length xs
    → give k ≡ get_or xs k d ∷ []) → joined give n ≡ take n xs
joined-take give xs d zero within each = refl
joined-take give xs d (suc n) within each =
    let before = joined-take give xs d n (omega arith) each in
    let here = each n (omega arith) in
    let next : suc n ≡ n + 1 = omega arith in
    let more : take (suc n) xs ≡ take n xs ++ get_or xs n d ∷ [] = ap (λ m. take m xs) next
    ∙ take_more xs n d (omega arith) in
    ap (λ ys. ys ++ give n) before ∙ ap (λ ys. take n xs ++ ys) here ∙ sym more

pub joined-list : {X : Type 0} (give : ℕ → List X) (xs : List X) (d : X) → ((k : ℕ) → k < length xs
    → give k ≡ get_or xs k d ∷ []) → joined give (length xs) ≡ xs
joined-list give xs d each = joined-take give xs d (length xs) (omega arith) each ∙ take-length xs

-- the first number apart
pub joined-first : {X : Type 0} (give : ℕ → List X) (count : ℕ)
    → joined give (suc count) ≡ give 0 ++ joined (λ k. give (suc k)) count
joined-first give zero = sym (append-nil (give 0))
joined-first give (suc count) =
    let before = joined-first give count in
    ap (λ xs. xs ++ give (suc count)) before
    ∙ append_assoc (give 0) (joined (λ k. give (suc k)) count) (give (suc count))

-- pieces of one size
pub length-pieces : {X : Type 0} (f : X → List ℕ) (size : ℕ) (xs : List X) → ((x : X) → length (f x) ≡ size)
    → length (flat_map f xs) ≡ size * length xs
length-pieces f size [] each = omega arith
length-pieces f size (x ∷ xs) each =
    let rest = length-pieces f size xs each in
    let sum = length-append (f x) (flat_map f xs) in
    let here = each x in
    let product : size * suc (length xs) ≡ size * length xs + size = omega arith in
    omega (arith, rest, sum, here, product)
