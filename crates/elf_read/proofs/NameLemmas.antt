-- Names that are ended by a zero byte.
use Rattle.std.proofs.Common.{◌≡◌, ◌≢◌, ◌<◌, ◌≤◌, ℕ, zero, suc, true, false, ◌==◌, List, [], ◌∷◌, length, get_or, drop, refl, arith}
use Rattle.std.proofs.lemmas.Bool.Decides.{nat_tests}
use Rattle.std.specs.List.{list_any}

-- a zero byte at place k ends what begins at i, up to k
pub ended-at : (xs : List ℕ) (i k : ℕ) → i ≤ k → k < length xs → get_or xs k 0 ≡ 0
    → list_any (λ byte. byte == 0) (drop i xs) ≡ true
ended-at [] i k le lt zero_there = grind arith
ended-at (x ∷ xs) zero zero le lt zero_there = grind (arith, nat_tests)
ended-at (x ∷ xs) zero (suc k) le lt zero_there =
    let rest = ended-at xs zero k (omega arith) (omega arith) zero_there in
    grind (arith, nat_tests)
ended-at (x ∷ xs) (suc i) zero le lt zero_there = grind arith
ended-at (x ∷ xs) (suc i) (suc k) le lt zero_there = ended-at xs i k (omega arith) (omega arith) zero_there

-- where no byte from i on is zero, none ends
pub not-ended : (xs : List ℕ) (i : ℕ) → ((j : ℕ) → i ≤ j → j < length xs → get_or xs j 0 ≢ 0)
    → list_any (λ byte. byte == 0) (drop i xs) ≡ false
not-ended [] zero none = refl
not-ended [] (suc i) none = refl
not-ended (x ∷ xs) zero none =
    let here : x ≢ 0 = none 0 (omega arith) (omega arith) in
    let rest = not-ended xs zero (λ j low high. none (suc j) (omega arith) (omega arith)) in
    grind (arith, nat_tests)
not-ended (x ∷ xs) (suc i) none = not-ended xs i (λ j low high. none (suc j) (omega arith) (omega arith))
