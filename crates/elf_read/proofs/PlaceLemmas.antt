-- First places.
use Rattle.std.proofs.Common.{◌≡◌, ◌+◌, ◌-◌, ◌<◌, ℕ, zero, suc, Bool, true, false, refl, ◌∙◌, arith}
use Rattle.elf_read.specs.Places.{first_from, first_where}

-- past numbers that do not pass, the first is the first from there on
pub first_from-past : (test : ℕ → Bool) (at more left : ℕ) → ((j : ℕ) → j < at + more → test j ≡ false)
    → first_from test at (more + left) ≡ first_from test (at + more) left
first_from-past test at zero left none =
    let place : at + 0 ≡ at = omega arith in
    let rest : 0 + left ≡ left = omega arith in
    rw (place, rest) refl
first_from-past test at (suc more) left none =
    let count : suc more + left ≡ suc (more + left) = omega arith in
    let here : test at ≡ false = none at (omega arith) in
    let place : at + 1 + more ≡ at + suc more = omega arith in
    let below : (j : ℕ) → j < at + 1 + more → test j ≡ false = λ j h. none j (omega arith) in
    let next = first_from-past test (at + 1) more left below in
    rw (count, here, next, place) refl

-- the first that passes is where it stands
pub first_where-is : (test : ℕ → Bool) (count k : ℕ) → k < count → test k ≡ true
    → ((j : ℕ) → j < k → test j ≡ false) → first_where test count ≡ k
unfolding first_where
first_where-is test count k within here before =
    let left : ℕ = count - k - 1 in
    let split : count ≡ k + suc left = omega arith in
    let past = first_from-past test 0 k (suc left) (λ j h. before j (omega arith)) in
    let none : 0 + k ≡ k = omega arith in
    rw (split, past, none, here) refl

-- where none passes, it is the count
pub first_where-none : (test : ℕ → Bool) (count : ℕ) → ((j : ℕ) → j < count → test j ≡ false)
    → first_where test count ≡ count
unfolding first_where
first_where-none test count before =
    let past = first_from-past test 0 count 0 (λ j h. before j (omega arith)) in
    let all : count + 0 ≡ count = omega arith in
    let none : 0 + count ≡ count = omega arith in
    (rw all at past) ∙ none
