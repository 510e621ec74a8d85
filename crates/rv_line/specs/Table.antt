-- Tables of words: a row is a name and what it stands for.
use Rattle.std.specs.Prelude.{ℕ, List, find, Option, option_map}
use Rattle.std.specs.Borrow.{Bor}
use Rattle.std.specs.Str.{bytes_eq}

-- what the first row of this name says
unfoldable pub first_named : {A : Type 0} → (word : List ℕ) → List (Bor (List ℕ) × A) → Option A
first_named word rows = option_map (λ row. row.1) (find (λ row. bytes_eq row.0.now word) rows)
