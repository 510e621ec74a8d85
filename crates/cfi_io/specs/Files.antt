-- The files of a shelf: a finite map from names to bytes. A name is its bytes in UTF-8.
use Rattle.std.specs.Prelude.{◌≡◌, ◌≢◌, ◌⊎◌, ℕ, List, take, Option, Some}

-- the bytes of the file of a name, where there is one
abbrev pub Files : Type 0
Files = (name : List ℕ) → Option (List ℕ)

-- after a write, the name has these bytes, and all else stays
pub record Puts (name bytes : List ℕ) (old new : Files) : Type 0 where
  pub here : new name ≡ Some bytes
  pub elsewhere : (other : List ℕ) → other ≢ name → new other ≡ old other

-- after a write that failed, the name has what stood there or some of these bytes, from the first on; all else stays
pub record PutsPart (name bytes : List ℕ) (old new : Files) : Type 0 where
  pub here : (new name ≡ old name) ⊎ ((k : ℕ) × (new name ≡ Some (take k bytes)))
  pub elsewhere : (other : List ℕ) → other ≢ name → new other ≡ old other
