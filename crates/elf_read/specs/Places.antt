-- First places, and what the numbers below a bound give together. Numbers count from 0.
use Rattle.std.specs.Prelude.{◌≡◌, ◌+◌, ◌<◌, ℕ, zero, suc, Bool, true, false, ◌||◌, if◌then◌else◌, List, [], ◌++◌}

-- k is the first number below the count that passes the test
pub record IsFirst (test : ℕ → Bool) (count k : ℕ) : Type 0 where
  pub within : k < count
  pub here : test k ≡ true
  pub before : (j : ℕ) → j < k → test j ≡ false

-- no number below the count passes the test
abbrev pub IsNone : (ℕ → Bool) → (count : ℕ) → Type 0
IsNone test count = (j : ℕ) → j < count → test j ≡ false

-- the first of `left` numbers from `at` on that passes the test, or the number after them
abbrev pub first_from : (ℕ → Bool) → (at left : ℕ) → ℕ
first_from test at zero = at
first_from test at (suc left) = if test at then at else first_from test (at + 1) left

-- the first number below the count that passes the test, or the count where none does
unfoldable pub first_where : (ℕ → Bool) → (count : ℕ) → ℕ
first_where test count = first_from test 0 count

-- some number below the count passes the test
abbrev pub some_below : (ℕ → Bool) → (count : ℕ) → Bool
some_below test zero = false
some_below test (suc count) = some_below test count || test count

-- how many numbers below the count pass the test
abbrev pub count_where : (ℕ → Bool) → (count : ℕ) → ℕ
count_where test zero = 0
count_where test (suc count) = count_where test count + (if test count then 1 else 0)

-- the sum of what the numbers below the count give
abbrev pub total_of : (ℕ → ℕ) → (count : ℕ) → ℕ
total_of give zero = 0
total_of give (suc count) = total_of give count + give count

-- what the numbers below the count give, one after the other
abbrev pub joined : {X : Type 0} → (ℕ → List X) → (count : ℕ) → List X
joined give zero = []
joined give (suc count) = joined give count ++ give count
