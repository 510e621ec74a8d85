-- What comes along arrows, by rows, to each node: a tag, which is the end of a seed that begins where the arrows do.
use Rattle.std.specs.Prelude.{◌≡◌, ◌⊎◌, ℕ, ◌+◌, ◌<◌, ◌≤◌, Option, Some, None, List, [], ◌∷◌, length, slice_index_or}
use Rattle.std.specs.List.{Contains}
use Rattle.cfi_flow.specs.declared.links.Link.{Link}
use Rattle.cfi_flow.specs.Flow.{Links}
use Rattle.cfi_flow.specs.inner.Reach.{IsWalk}

-- the tag of a node
abbrev pub tag_of : (tags : List (Option ℕ)) → (node : ℕ) → Option ℕ
tag_of tags node = slice_index_or tags node None

-- the node has a tag
abbrev pub HasTag : List (Option ℕ) → (node : ℕ) → Type 0
HasTag tags node = (tag : ℕ) × (tag_of tags node ≡ Some tag)

-- a seed with this end begins where a walk to the node does
pub record Arrives (rows : List (List ℕ)) (seeds : List Link) (node tag : ℕ) : Type 0 where
  pub origin : ℕ
  pub seed : Links seeds origin tag
  pub steps : ℕ
  pub walk : IsWalk rows steps origin node

-- each node to which something arrives has such a tag
pub record AreSpread (rows : List (List ℕ)) (seeds : List Link) (tags : List (Option ℕ)) : Type 0 where
  pub len : length tags ≡ length rows
  pub sound : (node tag : ℕ) → tag_of tags node ≡ Some tag → Arrives rows seeds node tag
  pub whole : (node tag : ℕ) → Arrives rows seeds node tag → HasTag tags node

-- how many nodes have no tag
abbrev pub untagged : List (Option ℕ) → ℕ
untagged [] = 0
untagged (Some tag ∷ tags) = untagged tags
untagged (None ∷ tags) = untagged tags + 1

-- tags and an order of tagged nodes become longer ones, where what is new is told
pub record AreLonger (tags : List (Option ℕ)) (order : List Link) (Told : (node tag : ℕ) → Type 0)
    (new_tags : List (Option ℕ)) (new_order : List Link) : Type 0 where
  pub len : length new_tags ≡ length tags
  pub longer : length order ≤ length new_order
  pub stays : (j : ℕ) (d : Link) → j < length order → slice_index_or new_order j d ≡ slice_index_or order j d
  pub kept : (k : ℕ) → HasTag tags k → HasTag new_tags k
  pub done : (k tag : ℕ) → Told k tag → HasTag new_tags k
  pub fresh : (k tag : ℕ) → Links new_order k tag → Links order k tag ⊎ Told k tag
  pub listed : (k tag : ℕ) → tag_of new_tags k ≡ Some tag → (tag_of tags k ≡ Some tag) ⊎ Links new_order k tag
  pub count : untagged new_tags + length new_order ≡ untagged tags + length order

-- the nodes of a row get the tag where they have none
abbrev pub IsTagged : (tags : List (Option ℕ)) (order : List Link) (row : List ℕ) (tag : ℕ)
    (new_tags : List (Option ℕ)) (new_order : List Link) → Type 0
IsTagged tags order row tag new_tags new_order =
    AreLonger tags order (λ k t. Contains row k × (t ≡ tag)) new_tags new_order

-- the nodes at which seeds begin get tags
abbrev pub AreBegun : (tags : List (Option ℕ)) (order seeds : List Link) (new_tags : List (Option ℕ))
    (new_order : List Link) → Type 0
AreBegun tags order seeds new_tags new_order = AreLonger tags order (Links seeds) new_tags new_order
