-- Parts of nodes, and their division by lists of nodes.
use Rattle.std.specs.Prelude.{◌≡◌, ℕ, ◌<◌, true, if◌then◌else◌, List, [], length, slice_index, slice_index_or, All}
use Rattle.cfi_type_table.specs.Node.{Node}
use Rattle.cfi_types.specs.Same.{Equal}
use Rattle.cfi_types.specs.inner.Hits.{has}

-- each node is in the list of its part, and each list has nodes alone
pub record AreListed (parts : List ℕ) (members : List (List ℕ)) : Type 0 where
  pub len : length members ≡ length parts
  pub below : (k : ℕ) → k < length parts → All (λ a. a < length parts) (slice_index_or members k [])
  pub listed : (a : ℕ) → a < length parts → has (slice_index_or members (slice_index parts a) []) a ≡ true

-- the nodes come to the targets of their parts, all others stay
pub record IsPut (old targets nodes new : List ℕ) : Type 0 where
  pub len : length new ≡ length old
  pub each : (a : ℕ) → a < length old → slice_index new a
      ≡ (if has nodes a then slice_index targets (slice_index old a) else slice_index old a)

-- parts that keep equal nodes together
pub record KeepTogether (nodes : List Node) (parts : List ℕ) : Type 0 where
  pub len : length parts ≡ length nodes
  pub kept : (a b : ℕ) → a < length nodes → b < length nodes → Equal nodes a nodes b
      → slice_index parts a ≡ slice_index parts b

-- the list has both of two equal nodes, or none
abbrev pub TellEqual : (nodes : List Node) → (list : List ℕ) → Type 0
TellEqual nodes list = (a b : ℕ) → a < length nodes → b < length nodes → Equal nodes a nodes b
    → has list a ≡ has list b

-- so many lists, and nothing in them
pub record AreClear (count : ℕ) (lists : List (List ℕ)) : Type 0 where
  pub len : length lists ≡ count
  pub none : (k : ℕ) → k < count → slice_index_or lists k [] ≡ []
