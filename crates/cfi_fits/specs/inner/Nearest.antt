-- The nearest wider one of each of signatures that are in order, and the links that they make.
use Rattle.std.specs.Prelude.{◌≡◌, ◌<◌, ◌≤◌, ◌⊎◌, ℕ, false, List, length, slice_index_or, Option, None, Some, IfSome}
use Rattle.cfi_flow.specs.declared.links.Link.{Link}
use Rattle.cfi_flow.specs.Flow.{Links}
use Rattle.cfi_fits.specs.declared.signature.Signature.{Signature}
use Rattle.cfi_fits.specs.inner.Signatures.{Widens}

-- a place is found, and it is this one or a later one
abbrev pub IsUpTo : (place : ℕ) → (found : Option ℕ) → Type 0
IsUpTo place None = ⊥
IsUpTo place (Some at) = place ≤ at

-- each earlier signature that is wider than the one of this place stands at what is found or before it
abbrev pub HoldsWider : List Signature → (place : ℕ) → (found : Option ℕ) → Type 0
HoldsWider signatures place found = (v : ℕ) (d : Signature) → v < place
    → Widens (slice_index_or signatures v d) (slice_index_or signatures place d) → IsUpTo v found

-- what is found has variable arguments
abbrev pub IsVariadicAt : List Signature → (at : ℕ) → Type 0
IsVariadicAt signatures at = (d : Signature) → (slice_index_or signatures at d).fixed ≡ false

-- no wider signature stands between what is found and the place
pub record IsCandidate (signatures : List Signature) (place : ℕ) (found : Option ℕ) : Type 0 where
  pub before : IfSome found (λ at. at < place)
  pub variadic : IfSome found (λ at. IsVariadicAt signatures at)
  pub holds : HoldsWider signatures place found

-- the one of this place is wider than the other
abbrev pub WidensAt : List Signature → (wide narrow : ℕ) → Type 0
WidensAt signatures wide narrow =
    (d : Signature) → Widens (slice_index_or signatures wide d) (slice_index_or signatures narrow d)

-- the last of the earlier ones that are wider
pub record IsNearest (signatures : List Signature) (place : ℕ) (found : Option ℕ) : Type 0 where
  pub before : IfSome found (λ at. at < place)
  pub wider : IfSome found (λ at. WidensAt signatures at place)
  pub holds : HoldsWider signatures place found

-- the nearest wider ones of the first signatures
pub record AreNearest (signatures : List Signature) (nearest : List (Option ℕ)) (count : ℕ) : Type 0 where
  pub len : length nearest ≡ count
  pub each : (place : ℕ) → place < count → IsNearest signatures place (slice_index_or nearest place None)

-- a link leads from the class of a place to that of its nearest wider one
abbrev pub IsLinked : List Signature → List (Option ℕ) → (place wide from to : ℕ) → Type 0
IsLinked signatures nearest place wide from to = (slice_index_or nearest place None ≡ Some wide) × ((d : Signature)
    → ((slice_index_or signatures place d).class ≡ from) × ((slice_index_or signatures wide d).class ≡ to))

-- the links of the first places: where the two classes are one there needs to be none
pub record AreLinksOf (signatures : List Signature) (nearest : List (Option ℕ)) (count : ℕ) (links : List Link)
    : Type 0 where
  pub sound : (from to : ℕ) → Links links from to
      → (place : ℕ) × (place < count) × (wide : ℕ) × IsLinked signatures nearest place wide from to
  pub whole : (place wide from to : ℕ) → place < count → IsLinked signatures nearest place wide from to
      → (from ≡ to) ⊎ Links links from to
  pub few : length links ≤ count
