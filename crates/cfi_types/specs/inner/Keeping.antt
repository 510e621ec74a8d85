-- Classes that keep equal nodes together.
use Rattle.std.specs.Prelude.{◌≡◌, ℕ, ◌<◌, min, List, [], ◌∷◌, length, slice_index}
use Rattle.cfi_word.specs.declared.limits.TheConstants.{MAX_FIELDS}
use Rattle.cfi_type_table.specs.Node.{Node}
use Rattle.cfi_type_table.specs.Kind.{numbers_of, nodes_of}
use Rattle.cfi_types.specs.Same.{Equal}
use Rattle.cfi_types.specs.inner.Splitting.{IsLow, IsFirstOfKey}

-- what is known of a node without those that it names: its kind, how many it names, and its numbers
abbrev pub label_of : Node → List ℕ
label_of x = x.kind ∷ min (length (nodes_of x)) MAX_FIELDS ∷ numbers_of x

-- the least node of each node's part
pub record AreNamed (parts names : List ℕ) : Type 0 where
  pub len : length names ≡ length parts
  pub least : (a : ℕ) → a < length parts → IsFirstOfKey (λ b. slice_index parts b ∷ []) a (slice_index names a)

-- classes, named by their least nodes, that keep equal nodes together
pub record KeepEqual (nodes : List Node) (classes : List ℕ) : Type 0 where
  pub len : length classes ≡ length nodes
  pub low : IsLow classes
  pub own : (a : ℕ) → a < length nodes → slice_index classes (slice_index classes a) ≡ slice_index classes a
  pub kept : (a b : ℕ) → a < length nodes → b < length nodes → Equal nodes a nodes b
      → slice_index classes a ≡ slice_index classes b
