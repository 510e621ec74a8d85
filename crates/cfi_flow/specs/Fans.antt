-- Fans: each of some branches may go to each of some addresses.
use Rattle.std.specs.Prelude.{ℕ, ◌<◌, List, map}
use Rattle.std.specs.List.{Contains, flat_map}
use Rattle.cfi_word.specs.declared.lists.Edge.{Edge}
use Rattle.cfi_word.specs.Chain.{Chain}
use Rattle.cfi_flow.specs.declared.fan.Fan.{Fan}
use Rattle.cfi_flow.specs.declared.links.Link.{Link}
use Rattle.cfi_flow.specs.declared.links.Flow.{Flow}
use Rattle.cfi_flow.specs.Flow.{GoesBy, Goes}
use Rattle.cfi_flow.specs.Order.{AreInOrder}
use Rattle.cfi_word.specs.Edge.{edge_of}

-- the fan joins the branch to the address
abbrev pub Joins : Fan → (slot address : ℕ) → Type 0
Joins fan slot address = Contains fan.slots.items slot × Contains fan.targets.items address

-- one of the fans joins them
pub record JoinsOne (fans : List Fan) (slot address : ℕ) : Type 0 where
  pub fan : Fan
  pub has : Contains fans fan
  pub joins : Joins fan slot address

-- the fans of the nodes below the count
pub record AreFans (flow : Flow) (count : ℕ) (fans : List Fan) : Type 0 where
  pub sound : (slot address : ℕ) → JoinsOne fans slot address → (node : ℕ) × GoesBy flow node slot address
  pub whole : (slot address node : ℕ) → node < count → GoesBy flow node slot address → JoinsOne fans slot address

-- the edges of links
abbrev pub link_edge : Link → Edge
link_edge link = edge_of link.from link.to

-- the edges from each of the branches to each of the addresses
abbrev pub pairs_of : (slots targets : List ℕ) → List Edge
pairs_of slots targets = flat_map (λ slot. map (edge_of slot) targets) slots

-- all edges of a fan
abbrev pub all_of : Fan → List Edge
all_of fan = pairs_of fan.slots.items fan.targets.items

-- an edge of the list joins them
abbrev pub IsListed : List Edge → (slot address : ℕ) → Type 0
IsListed edges slot address = Contains edges (edge_of slot address)

-- all edges of a flow, in order, each once
pub record AreEdges (flow : Flow) (edges : List Edge) : Type 0 where
  pub sound : (slot address : ℕ) → IsListed edges slot address → Goes flow slot address
  pub whole : (slot address : ℕ) → Goes flow slot address → IsListed edges slot address
  pub order : AreInOrder edges

-- edges of a flow whose chains join what any of its edges joins, in order, each once
pub record AreFewEdges (flow : Flow) (edges : List Edge) : Type 0 where
  pub sound : (slot address : ℕ) → IsListed edges slot address → Goes flow slot address
  pub whole : (slot address : ℕ) → Goes flow slot address → Chain (IsListed edges) slot address
  pub order : AreInOrder edges
