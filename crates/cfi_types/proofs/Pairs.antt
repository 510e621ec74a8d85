-- Two lists, pair by pair.
use Rattle.std.proofs.Common.{◌≡◌, ◌≢◌, ℕ, ◌+◌, ◌-◌, ◌*◌, ◌<◌, ◌≤◌, suc, List, [], ◌∷◌, length, map, get_or, All, refl, arith, inl, inr}
use Rattle.std.specs.List.{AllZip}
use Rattle.std.proofs.lemmas.Bool.{cases_order}
use Rattle.std.proofs.lemmas.List.Elements.{All-head, All-tail}

-- related at each depth, pair by pair, is related pair by pair to each depth
pub all_zip_at_each : {A B : Type 0} (R : ℕ → A → B → Type 0) (xs : List A) (ys : List B)
    → ((n : ℕ) → AllZip (R n) xs ys) → AllZip (λ x y. (n : ℕ) → R n x y) xs ys
all_zip_at_each R [] [] h = tt
all_zip_at_each R [] (y ∷ ys) h = absurd (h 0)
all_zip_at_each R (x ∷ xs) [] h = absurd (h 0)
all_zip_at_each R (x ∷ xs) (y ∷ ys) h = (λ n. (h n).0, all_zip_at_each R xs ys (λ n. (h n).1))

-- what related numbers below a bound share
pub map_from_all_zip : {B : Type 0} (n : ℕ) (R : ℕ → ℕ → Type 0) (f : ℕ → B)
    → ((x y : ℕ) → x < n → y < n → R x y → f x ≡ f y)
    → (xs ys : List ℕ) → All (λ x. x < n) xs → All (λ y. y < n) ys → AllZip R xs ys → map f xs ≡ map f ys
map_from_all_zip n R f h [] [] a b r = refl
map_from_all_zip n R f h [] (y ∷ ys) a b r = absurd r
map_from_all_zip n R f h (x ∷ xs) [] a b r = absurd r
map_from_all_zip n R f h (x ∷ xs) (y ∷ ys) a b r =
    let head : f x ≡ f y = h x y (All-head (λ k. k < n) x xs a) (All-head (λ k. k < n) y ys b) r.0 in
    let tail : map f xs ≡ map f ys =
    map_from_all_zip n R f h xs ys (All-tail (λ k. k < n) x xs a) (All-tail (λ k. k < n) y ys b) r.1 in
    cc

pub all_zip_from_map : {B : Type 0} (n : ℕ) (R : ℕ → ℕ → Type 0) (f : ℕ → B)
    → ((x y : ℕ) → x < n → y < n → f x ≡ f y → R x y)
    → (xs ys : List ℕ) → All (λ x. x < n) xs → All (λ y. y < n) ys → map f xs ≡ map f ys → AllZip R xs ys
all_zip_from_map n R f h [] [] a b e = tt
all_zip_from_map n R f h [] (y ∷ ys) a b e = absurd cc
all_zip_from_map n R f h (x ∷ xs) [] a b e = absurd cc
all_zip_from_map n R f h (x ∷ xs) (y ∷ ys) a b e =
    let head : f x ≡ f y = cc in
    let tail : map f xs ≡ map f ys = cc in (
      h x y (All-head (λ k. k < n) x xs a) (All-head (λ k. k < n) y ys b) head,
      all_zip_from_map n R f h xs ys (All-tail (λ k. k < n) x xs a) (All-tail (λ k. k < n) y ys b) tail,
    )

-- ---- sums

abbrev pub total : List ℕ → ℕ
total [] = 0
total (x ∷ xs) = x + total xs

one_row : (k n m : ℕ) → k ≡ n + 1 → k * m ≡ n * m + m
one_row k n m e = rw e (omega arith)

pub total_le_total : (xs ys : List ℕ) → length xs ≡ length ys
    → ((a : ℕ) → a < length xs → get_or xs a 0 ≤ get_or ys a 0) → total xs ≤ total ys
total_le_total [] ys len h = omega arith
total_le_total (x ∷ xs) [] len h = absurd (omega arith)
total_le_total (x ∷ xs) (y ∷ ys) len h =
    let head : x ≤ y = h 0 (omega arith) in
    let rest : length xs ≡ length ys = omega arith in
    let tail : total xs ≤ total ys = total_le_total xs ys rest (λ a lt. h (suc a) (omega arith)) in
    omega arith

pub total_lt_total : (xs ys : List ℕ) → length xs ≡ length ys
    → ((a : ℕ) → a < length xs → get_or xs a 0 ≤ get_or ys a 0) → xs ≢ ys → total xs < total ys
total_lt_total [] [] len h differ = absurd (differ refl)
total_lt_total [] (y ∷ ys) len h differ = absurd (omega arith)
total_lt_total (x ∷ xs) [] len h differ = absurd (omega arith)
total_lt_total (x ∷ xs) (y ∷ ys) len h differ =
    let head : x ≤ y = h 0 (omega arith) in
    let rest : length xs ≡ length ys = omega arith in
    let tail : total xs ≤ total ys = total_le_total xs ys rest (λ a lt. h (suc a) (omega arith)) in
    elim (cases_order x y) [
      | inl same ↦
          let apart : xs ≢ ys = λ e. differ cc in
          let less : total xs < total ys = total_lt_total xs ys rest (λ a lt. h (suc a) (omega arith)) apart in
          omega arith
      | inr order ↦ elim order [ inl less ↦ omega arith | inr more ↦ absurd (omega arith) ]
    ]

pub total_le_square : (m : ℕ) (xs : List ℕ) → ((a : ℕ) → a < length xs → get_or xs a 0 ≤ m) → total xs ≤ length xs * m
total_le_square m [] h = omega arith
total_le_square m (x ∷ xs) h =
    let head : x ≤ m = h 0 (omega arith) in
    let tail : total xs ≤ length xs * m = total_le_square m xs (λ a lt. h (suc a) (omega arith)) in
    omega (arith, one_row (length (x ∷ xs)) (length xs) m (omega arith))

-- less is left as a sum rises
pub less_left : (n a b : ℕ) → a < b → b ≤ n → n - b < n - a
less_left n a b less within = omega arith
