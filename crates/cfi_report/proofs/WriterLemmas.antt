-- Lines are written one after another.
use Rattle.std.proofs.Common.{◌≡◌, ℕ, List, ◌++◌, drop}

-- what was written and what is left are the text of the list
pub record IsWritten {A : Type 0} (all : List A → List ℕ) (start out : List ℕ) (xs : List A) (i : ℕ) : Type 0 where
  pub written : out ++ all (drop i xs) ≡ start ++ all xs
