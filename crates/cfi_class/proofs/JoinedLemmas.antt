-- A chain joins a slot and an address exactly where their nodes have one root.
use Rattle.std.proofs.Common.{◌≡◌, ℕ, zero, suc, ◌<◌, List, All, sym, subst, ◌∙◌}
use Rattle.cfi_word.specs.declared.lists.Edge.{Edge}
use Rattle.cfi_word.specs.Chain.{ChainOf, Chain}
use Rattle.cfi_class.specs.inner.Forest.{root_of}
use Rattle.cfi_class.specs.Labels.{HasEdge, IsEdgeWithin, IsReached, IsUsed}
use Rattle.cfi_class.specs.inner.Linked.{End, IsEnd, IsForestBy}
use Rattle.cfi_class.specs.inner.Linked.End.{Slot, Address}
use Rattle.cfi_class.proofs.LinkedLemmas.{chain_from_Linked}

-- a chain stays in one tree
pub chain_root : {node : End → ℕ} {nodes : ℕ} (joins : (slot address : ℕ) → Type 0) (slots code_words : ℕ)
    (parents : List ℕ) → IsForestBy node nodes joins slots code_words parents
    → (more slot address : ℕ) → ChainOf joins more slot address
    → root_of parents (node (Slot slot)) ≡ root_of parents (node (Address address))
chain_root joins slots code_words parents forest zero slot address edge = forest.joined slot address edge
chain_root joins slots code_words parents forest (suc more) slot address (shared, other, edge, back, rest) =
    forest.joined slot shared edge ∙ sym (forest.joined other shared back)
    ∙ chain_root joins slots code_words parents forest more other address rest

-- what is in one tree is joined by a chain
pub chain_from_roots : {node : End → ℕ} {nodes : ℕ} (joins : (slot address : ℕ) → Type 0) (slots code_words : ℕ)
    (parents : List ℕ) → IsForestBy node nodes joins slots code_words parents
    → (slot address : ℕ) → IsEnd slots code_words (Slot slot) → IsEnd slots code_words (Address address)
    → root_of parents (node (Slot slot)) ≡ root_of parents (node (Address address)) → Chain joins slot address
chain_from_roots joins slots code_words parents forest slot address is_slot is_address equal =
    let way = chain_from_Linked joins (forest.linked (Slot slot) (Address address) is_slot is_address equal) in
    record { more = way.0; chain = way.1 }

-- the slot of a chain has an edge, and so has its address
pub first_of_chain : (joins : (slot address : ℕ) → Type 0) (more slot address : ℕ) → ChainOf joins more slot address
    → IsUsed joins slot
first_of_chain joins zero slot address edge = (address, edge)
first_of_chain joins (suc more) slot address (shared, other, edge, back, rest) = (shared, edge)

pub last_of_chain : (joins : (slot address : ℕ) → Type 0) (more slot address : ℕ) → ChainOf joins more slot address
    → IsReached joins address
last_of_chain joins zero slot address edge = (slot, edge)
last_of_chain joins (suc more) slot address (shared, other, edge, back, rest) =
    last_of_chain joins more other address rest

-- ---- edges of a list

pub edge_within : (edges : List Edge) (slots code_words : ℕ) → All (IsEdgeWithin slots code_words) edges
    → (slot address : ℕ) → HasEdge edges slot address
    → IsEdgeWithin slots code_words (record { branch = slot; target = address })
edge_within edges slots code_words within slot address (place, there, is) =
    let edge : Edge = record { branch = slot; target = address } in
    subst (IsEdgeWithin slots code_words) is (within place edge there)

-- the branch of an edge of the list is one of the slots
pub branch_within : (edges : List Edge) (slots code_words : ℕ) → All (IsEdgeWithin slots code_words) edges
    → (slot address : ℕ) → HasEdge edges slot address → slot < slots
branch_within edges slots code_words within slot address edge =
    (edge_within edges slots code_words within slot address edge).branch

-- both ends of a chain of the list are within
pub chain_within : (edges : List Edge) (slots code_words : ℕ) → All (IsEdgeWithin slots code_words) edges
    → (slot address : ℕ) → Chain (HasEdge edges) slot address
    → IsEdgeWithin slots code_words (record { branch = slot; target = address })
chain_within edges slots code_words within slot address chain =
    let first = first_of_chain (HasEdge edges) chain.more slot address chain.chain in
    let last = last_of_chain (HasEdge edges) chain.more slot address chain.chain in
    let is_last = edge_within edges slots code_words within last.0 address last.1 in
    record {
      branch = branch_within edges slots code_words within slot first.0 first.1;
      whole = is_last.whole;
      target = is_last.target;
    }
