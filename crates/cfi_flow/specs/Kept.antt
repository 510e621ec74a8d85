-- A flow that is kept while links are added, and few edges of it.
use Rattle.std.specs.Prelude.{◌≡◌, ◌⊎◌, ℕ, ◌++◌, List, []}
use Rattle.cfi_word.specs.declared.lists.Edge.{Edge}
use Rattle.cfi_word.specs.Chain.{Chain}
use Rattle.cfi_flow.specs.declared.links.Link.{Link}
use Rattle.cfi_flow.specs.declared.links.Flow.{Flow}
use Rattle.cfi_flow.specs.Flow.{Links, Reaches}
use Rattle.cfi_flow.specs.Fans.{IsListed}

-- the links of a flow so far, and few edges of it
pub record Kept : Type 0 where
  pub nodes : ℕ
  pub arrows : List Link
  pub sites : List Link
  pub returns : List Link
  pub pointers : List Link
  pub entries : List Link
  pub widenings : List Link
  pub listed : List Link
  pub edges : List Edge

-- no nodes, links and edges
abbrev pub no_flow : Kept
no_flow = record {
  nodes = 0;
  arrows = [];
  sites = [];
  returns = [];
  pointers = [];
  entries = [];
  widenings = [];
  listed = [];
  edges = [];
}

-- the new one has the nodes of the flow, and its links behind those of the old one; edges are added behind the old ones
pub record IsExtended (old : Kept) (flow : Flow) (new : Kept) : Type 0 where
  pub nodes : new.nodes ≡ flow.nodes
  pub arrows : new.arrows ≡ old.arrows ++ flow.arrows.items
  pub sites : new.sites ≡ old.sites ++ flow.sites.items
  pub returns : new.returns ≡ old.returns ++ flow.returns.items
  pub pointers : new.pointers ≡ old.pointers ++ flow.pointers.items
  pub entries : new.entries ≡ old.entries ++ flow.entries.items
  pub widenings : new.widenings ≡ old.widenings ++ flow.widenings.items
  pub listed : new.listed ≡ old.listed ++ flow.listed.items
  pub added : List Edge
  pub edges : new.edges ≡ old.edges ++ added

-- pointers to what the node stands for may lead to the address, and the branch points to that or to something wider
pub record PointsAlong (kept : Kept) (node slot address : ℕ) : Type 0 where
  pub entry : Links kept.entries node address
  pub pointing : ℕ
  pub wider : Reaches kept.widenings node pointing
  pub pointer : Links kept.pointers pointing slot

-- what enters the node comes back to the address, and gets to where the branch returns
pub record ReturnsAlong (kept : Kept) (node slot address : ℕ) : Type 0 where
  pub site : Links kept.sites node address
  pub returning : ℕ
  pub reached : Reaches kept.arrows node returning
  pub back : Links kept.returns returning slot

-- the branch may go to the address along the links: it is listed, or goes there by way of a node
abbrev pub GoesAlong : Kept → (slot address : ℕ) → Type 0
GoesAlong kept slot address = Links kept.listed slot address
    ⊎ ((node : ℕ) × (PointsAlong kept node slot address ⊎ ReturnsAlong kept node slot address))

-- the edges are some of those along the links, and their chains join what any of these joins
pub record SpansFlow (kept : Kept) : Type 0 where
  pub sound : (slot address : ℕ) → IsListed kept.edges slot address → GoesAlong kept slot address
  pub whole : (slot address : ℕ) → GoesAlong kept slot address → Chain (IsListed kept.edges) slot address
