-- What comes back from nodes, and few edges of it: each node stands for one address and one branch.
use Rattle.std.specs.Prelude.{◌≡◌, ℕ, ◌+◌, ◌*◌, ◌≤◌, Option, Some, List, [], ◌∷◌, ◌++◌, length}
use Rattle.std.specs.List.{flat_map}
use Rattle.cfi_word.specs.declared.lists.Edge.{Edge}
use Rattle.cfi_word.specs.Chain.{Chain}
use Rattle.cfi_word.specs.Edge.{edge_of}
use Rattle.cfi_flow.specs.declared.links.Link.{Link}
use Rattle.cfi_flow.specs.Flow.{Links, Reaches}
use Rattle.cfi_flow.specs.Fans.{IsListed}
use Rattle.cfi_flow.specs.inner.Spread.{tag_of}

-- the edge of a branch and an address, where both are there
abbrev pub between : (slot target : Option ℕ) → List Edge
between (Some slot) (Some target) = edge_of slot target ∷ []
between slot target = []

-- edges of a return, of a site and of an arrow, by the address and the branch for which each node stands
abbrev pub return_edges : (places : List (Option ℕ)) → Link → List Edge
return_edges places link = between (Some link.to) (tag_of places link.from)

-- few edges of a site: the branch of its node goes to the place after the call, and to the place of its node
abbrev pub site_edges : (places slots : List (Option ℕ)) → Link → List Edge
site_edges places slots link =
    between (tag_of slots link.from) (Some link.to) ++ between (tag_of slots link.from) (tag_of places link.from)

-- few edges of an arrow: the branch of the node to which it leads goes to the places of both
abbrev pub arrow_edges : (places slots : List (Option ℕ)) → Link → List Edge
arrow_edges places slots link =
    between (tag_of slots link.to) (tag_of places link.from) ++ between (tag_of slots link.to) (tag_of places link.to)

-- those of all returns, sites and arrows
abbrev pub tied : (arrows sites returns : List Link) (places slots : List (Option ℕ)) → List Edge
tied arrows sites returns places slots =
    (flat_map (return_edges places) returns ++ flat_map (site_edges places slots) sites)
    ++ flat_map (arrow_edges places slots) arrows

-- what enters some node comes back to the address, and gets to where the branch returns
pub record ComesBack (arrows sites returns : List Link) (slot address : ℕ) : Type 0 where
  pub node : ℕ
  pub site : Links sites node address
  pub returning : ℕ
  pub reached : Reaches arrows node returning
  pub back : Links returns returning slot

-- some of what comes back, at most two edges for each link, whose chains join all of it
pub record AreWays (arrows sites returns : List Link) (edges : List Edge) : Type 0 where
  pub sound : (slot address : ℕ) → IsListed edges slot address → ComesBack arrows sites returns slot address
  pub whole : (slot address : ℕ) → ComesBack arrows sites returns slot address → Chain (IsListed edges) slot address
  pub few : length edges ≤ 2 * (length arrows + length sites + length returns)

-- the new list has such edges behind the old ones
pub record AddsWays (arrows sites returns : List Link) (old new : List Edge) : Type 0 where
  pub added : List Edge
  pub is : new ≡ old ++ added
  pub ways : AreWays arrows sites returns added
