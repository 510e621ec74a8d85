-- The edges of a flow that are none of another, which is part of it.
use Rattle.std.specs.Prelude.{◌≡◌, ℕ, List}
use Rattle.std.specs.List.{Contains}
use Rattle.cfi_word.specs.declared.lists.Edge.{Edge}
use Rattle.cfi_flow.specs.declared.links.Link.{Link}
use Rattle.cfi_flow.specs.declared.links.Flow.{Flow}
use Rattle.cfi_flow.specs.Flow.{Links, Goes}
use Rattle.cfi_flow.specs.Fans.{IsListed}
use Rattle.cfi_flow.specs.Order.{AreInOrder}

-- each of the links is one of the others
abbrev pub AreAmong : (links others : List Link) → Type 0
AreAmong links others = (from to : ℕ) → Links links from to → Links others from to

-- the flow is part of another with as many nodes: what it tells the other tells too
pub record IsPartOf (part whole : Flow) : Type 0 where
  pub nodes : part.nodes ≡ whole.nodes
  pub arrows : AreAmong part.arrows.items whole.arrows.items
  pub sites : AreAmong part.sites.items whole.sites.items
  pub returns : AreAmong part.returns.items whole.returns.items
  pub pointers : AreAmong part.pointers.items whole.pointers.items
  pub entries : AreAmong part.entries.items whole.entries.items
  pub widenings : AreAmong part.widenings.items whole.widenings.items
  pub listed : AreAmong part.listed.items whole.listed.items

-- the links to a number begin at one number
abbrev pub HaveOneBeginning : List Link → Type 0
HaveOneBeginning links = (one other to : ℕ) → Links links one to → Links links other to → one ≡ other

-- an address is the entry of one node, and comes after a call of one; a branch goes through a pointer, or returns, or
-- lists addresses
pub record IsToldOnce (flow : Flow) : Type 0 where
  pub entries : HaveOneBeginning flow.entries.items
  pub sites : HaveOneBeginning flow.sites.items
  pub points_or_returns : (node other slot : ℕ) → Links flow.pointers.items node slot
      → Links flow.returns.items other slot → ⊥
  pub points_or_lists : (node slot address : ℕ) → Links flow.pointers.items node slot
      → Links flow.listed.items slot address → ⊥
  pub returns_or_lists : (node slot address : ℕ) → Links flow.returns.items node slot
      → Links flow.listed.items slot address → ⊥

-- those of the list that are none of the known ones
pub record AreOthers {X : Type 0} (all known others : List X) : Type 0 where
  pub sound : (x : X) → Contains others x → Contains all x × (Contains known x → ⊥)
  pub whole : (x : X) → Contains all x → (Contains known x → ⊥) → Contains others x

-- the branch may go to the address by the flow, and not by the known one
pub record IsFresh (known flow : Flow) (slot address : ℕ) : Type 0 where
  pub goes : Goes flow slot address
  pub new : Goes known slot address → ⊥

-- the edges of the flow that are none of the known one, in order, each once
pub record AreFreshEdges (known flow : Flow) (edges : List Edge) : Type 0 where
  pub sound : (slot address : ℕ) → IsListed edges slot address → IsFresh known flow slot address
  pub whole : (slot address : ℕ) → IsFresh known flow slot address → IsListed edges slot address
  pub order : AreInOrder edges
