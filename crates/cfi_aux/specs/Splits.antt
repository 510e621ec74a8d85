-- Where a bound parts a list of functions or of units, by a number that each has.
use Rattle.std.specs.Prelude.{ℕ, ◌<◌, ◌≤◌, List, length}
use Rattle.std.specs.List.{AllWithin}

-- the items before the number n, and no others, have a value below the bound
pub record SplitsBelow {T : Type 0} (value : T → ℕ) (xs : List T) (bound n : ℕ) : Type 0 where
  pub within : n ≤ length xs
  pub below : AllWithin (λ (x : T). value x < bound) xs 0 n
  pub above : AllWithin (λ (x : T). bound ≤ value x) xs n (length xs)

-- the items before the number n, and no others, have a value that is not above the bound
pub record SplitsUpTo {T : Type 0} (value : T → ℕ) (xs : List T) (bound n : ℕ) : Type 0 where
  pub within : n ≤ length xs
  pub below : AllWithin (λ (x : T). value x ≤ bound) xs 0 n
  pub above : AllWithin (λ (x : T). bound < value x) xs n (length xs)
