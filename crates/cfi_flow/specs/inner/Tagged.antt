-- Tags that stand while arrows and seeds are added: what comes along arrows to each node.
use Rattle.std.specs.Prelude.{◌≡◌, ◌⊎◌, ℕ, Option, Some, None, List, [], ◌∷◌}
use Rattle.cfi_flow.specs.declared.links.Link.{Link}
use Rattle.cfi_flow.specs.Flow.{Links, Reaches}
use Rattle.cfi_flow.specs.inner.Spread.{tag_of, HasTag}

-- a seed with this end begins where some arrows, or none, lead to the node
pub record Comes (arrows seeds : List Link) (node tag : ℕ) : Type 0 where
  pub origin : ℕ
  pub seed : Links seeds origin tag
  pub reached : Reaches arrows origin node

-- each tag comes to its node; a node has one where a seed begins, and where an arrow leads from a node that has one
pub record AreTagged (arrows seeds : List Link) (tags : List (Option ℕ)) : Type 0 where
  pub sound : (node tag : ℕ) → tag_of tags node ≡ Some tag → Comes arrows seeds node tag
  pub begun : (node tag : ℕ) → Links seeds node tag → HasTag tags node
  pub closed : (from to : ℕ) → Links arrows from to → HasTag tags from → HasTag tags to

-- what an arrow carries on: the tag of where it begins, to where it leads
abbrev pub carried_on : Option ℕ → (to : ℕ) → List Link
carried_on None to = []
carried_on (Some tag) to = record { from = to; to = tag } ∷ []

-- what a link carries on from the tag of the node at which it begins
abbrev pub carried_by : (tags : List (Option ℕ)) → Link → List Link
carried_by tags link = carried_on (tag_of tags link.from) link.to

-- the new tags are those that stand with further arrows and seeds; what is not as before is in the order
pub record AreSpreadOn (arrows seeds : List Link) (old tags : List (Option ℕ)) (order : List Link) : Type 0 where
  pub tagged : AreTagged arrows seeds tags
  pub fresh : (node tag : ℕ) → tag_of tags node ≡ Some tag → (tag_of old node ≡ Some tag) ⊎ Links order node tag
