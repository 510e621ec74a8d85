-- Which nodes name a node of a class, place by place.
use Rattle.std.specs.Prelude.{◌≡◌, ℕ, ◌<◌, Bool, ◌==◌, ◌&&◌, ◌||◌, List, [], length, slice_index, slice_index_or}
use Rattle.std.specs.List.{list_any}
use Rattle.cfi_types.specs.declared.parents.Name.{Name}
use Rattle.cfi_types.specs.inner.Parents.{has_name, lists_name}

-- whether a list has the node
abbrev pub has : List ℕ → (node : ℕ) → Bool
has nodes node = list_any (λ x. x == node) nodes

-- whether the list of this place has the node
abbrev pub is_hit : (hits : List (List ℕ)) → (place node : ℕ) → Bool
is_hit hits place node = has (slice_index_or hits place []) node

-- the nodes of the names are added, each to the list of its place
pub record AddsHits (old : List (List ℕ)) (names : List Name) (new : List (List ℕ)) : Type 0 where
  pub len : length new ≡ length old
  pub each : (place node : ℕ) → place < length old
      → is_hit new place node ≡ (is_hit old place node || has_name names node place)

-- whether the node names at this place one of the members that are in the class
abbrev pub hits_one : (parents : List (List Name)) → (members classes : List ℕ) → (class place node : ℕ) → Bool
hits_one parents members classes class place node =
    list_any (λ a. (slice_index classes a == class) && lists_name parents a node place) members

-- the nodes that name such a member are added, each to the list of the place
pub record GathersHits (old : List (List ℕ)) (parents : List (List Name)) (members classes : List ℕ) (class : ℕ)
    (new : List (List ℕ)) : Type 0 where
  pub len : length new ≡ length old
  pub each : (place node : ℕ) → place < length old
      → is_hit new place node ≡ (is_hit old place node || hits_one parents members classes class place node)
