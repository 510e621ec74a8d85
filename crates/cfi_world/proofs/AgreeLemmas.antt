-- On how many words two lists agree.
use Rattle.std.proofs.Common.{◌≡◌, ◌≢◌, ℕ, suc, ◌+◌, ◌<◌, ◌≤◌, ◌==◌, Bool, true, false, cond, List, [], ◌∷◌, length, drop, slice_index, refl, ap, ◌∙◌, arith}
use Rattle.std.proofs.lemmas.Bool.Decides.{nat_tests}
use Rattle.std.proofs.lemmas.List.{drop_more, length-drop}
use Rattle.std.proofs.Math.ListN.{drop_of_length-le}
use Rattle.cfi_world.specs.Updates.{agreeing}

heads_same : (x y : ℕ) (xs ys : List ℕ) → x ≡ y → agreeing (x ∷ xs) (y ∷ ys) ≡ agreeing xs ys + 1
heads_same x y xs ys e =
    let test : (x == y) ≡ true = grind (arith, nat_tests) in ap (λ b. cond b (agreeing xs ys + 1) 0) test

heads_differ : (x y : ℕ) (xs ys : List ℕ) → x ≢ y → agreeing (x ∷ xs) (y ∷ ys) ≡ 0
heads_differ x y xs ys e =
    let test : (x == y) ≡ false = grind (arith, nat_tests) in ap (λ b. cond b (agreeing xs ys + 1) 0) test

past_new : (xs : List ℕ) → agreeing xs [] ≡ 0
past_new [] = refl
past_new (x ∷ xs) = refl

-- one word more on which they agree
pub agree_on : (old new : List ℕ) (at : ℕ) → at < length old → at < length new
    → slice_index old at ≡ slice_index new at
    → agreeing (drop at old) (drop at new) ≡ agreeing (drop (at + 1) old) (drop (at + 1) new) + 1
agree_on old new at one two e =
    ap (λ xs. agreeing xs (drop at new)) (drop_more old at 0 one)
    ∙ ap (λ ys. agreeing (slice_index old at ∷ drop (at + 1) old) ys) (drop_more new at 0 two)
    ∙ heads_same (slice_index old at) (slice_index new at) (drop (at + 1) old) (drop (at + 1) new) e

-- a word on which they do not
pub agree_no : (old new : List ℕ) (at : ℕ) → at < length old → at < length new
    → slice_index old at ≢ slice_index new at → agreeing (drop at old) (drop at new) ≡ 0
agree_no old new at one two e =
    ap (λ xs. agreeing xs (drop at new)) (drop_more old at 0 one)
    ∙ ap (λ ys. agreeing (slice_index old at ∷ drop (at + 1) old) ys) (drop_more new at 0 two)
    ∙ heads_differ (slice_index old at) (slice_index new at) (drop (at + 1) old) (drop (at + 1) new) e

-- one of them has ended
pub agree_old : (old new : List ℕ) (at : ℕ) → length old ≤ at → agreeing (drop at old) (drop at new) ≡ 0
agree_old old new at past = ap (λ xs. agreeing xs (drop at new)) (drop_of_length-le old past)

pub agree_new : (old new : List ℕ) (at : ℕ) → length new ≤ at → agreeing (drop at old) (drop at new) ≡ 0
agree_new old new at past = ap (λ ys. agreeing (drop at old) ys) (drop_of_length-le new past) ∙ past_new (drop at old)

most_by : (b : Bool) (n m : ℕ) → n ≤ m → cond b (n + 1) 0 ≤ suc m
most_by true n m below = omega arith
most_by false n m below = omega arith

-- they agree on no more words than the first one has
pub agree_most : (old new : List ℕ) → agreeing old new ≤ length old
agree_most [] new = omega arith
agree_most (x ∷ old) [] = omega arith
agree_most (x ∷ old) (y ∷ new) = most_by (x == y) (agreeing old new) (length old) (agree_most old new)

pub parted_most : (old new : List ℕ) (from most : ℕ) → length old ≤ most → from ≤ most
    → from + agreeing (drop from old) (drop from new) ≤ most
parted_most old new from most long below =
    omega (arith, agree_most (drop from old) (drop from new), length-drop from old)
