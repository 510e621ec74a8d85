-- What of a list is in none of another, and what of a flow is fresh node by node.
use Rattle.std.specs.Prelude.{◌⊎◌, ℕ, ◌<◌, List}
use Rattle.std.specs.List.Sorted.{IsNonDecreasingBy}
use Rattle.std.specs.declared.cmp.Ordering.{Ordering}
use Rattle.std.specs.Ordering.{nat_cmp, ordering_then, ordering_index}
use Rattle.cfi_word.specs.declared.lists.Edge.{Edge}
use Rattle.cfi_flow.specs.declared.fan.Fan.{Fan}
use Rattle.cfi_flow.specs.declared.links.Flow.{Flow}
use Rattle.cfi_flow.specs.Flow.{PointsAt, ReturnsAt}
use Rattle.cfi_flow.specs.Fans.{Joins, IsListed}

-- edges by branch and then by address
abbrev pub edge_cmp : (one other : Edge) → Ordering
edge_cmp one other = ordering_then (nat_cmp one.branch other.branch) (nat_cmp one.target other.target)

-- edges in which any edge can be searched
abbrev pub CanBeSearched : List Edge → Type 0
CanBeSearched edges = (edge : Edge) → IsNonDecreasingBy (λ e. ordering_index (edge_cmp e edge)) edges

-- a list has the edges of another, and those that are told
pub record AddsEdges (old : List Edge) (Told : (slot address : ℕ) → Type 0) (new : List Edge) : Type 0 where
  pub kept : (slot address : ℕ) → IsListed old slot address → IsListed new slot address
  pub whole : (slot address : ℕ) → Told slot address → IsListed new slot address
  pub only : (slot address : ℕ) → IsListed new slot address → IsListed old slot address ⊎ Told slot address

-- the fan joins them, and the known one does not
abbrev pub JoinsFresh : (fan known : Fan) → (slot address : ℕ) → Type 0
JoinsFresh fan known slot address = Joins fan slot address × (Joins known slot address → ⊥)

-- the list has what a fan joins and a known fan does not, beside what it had
abbrev pub AddsOthers : (old : List Edge) → (fan known : Fan) → (new : List Edge) → Type 0
AddsOthers old fan known new = AddsEdges old (JoinsFresh fan known) new

-- control may go so by way of the node, and not by way of it in the known flow
abbrev pub IsFreshAt : (known flow : Flow) → (node slot address : ℕ) → Type 0
IsFreshAt known flow node slot address =
    (PointsAt flow node slot address × (PointsAt known node slot address → ⊥))
    ⊎ (ReturnsAt flow node slot address × (ReturnsAt known node slot address → ⊥))

-- or by way of some node below the count
abbrev pub IsFreshBelow : (known flow : Flow) → (count slot address : ℕ) → Type 0
IsFreshBelow known flow count slot address =
    (node : ℕ) × (node < count) × IsFreshAt known flow node slot address

-- it has what the nodes below a number bring, beside what it had
abbrev pub AddsFresh : (known flow : Flow) → (count : ℕ) → (old new : List Edge) → Type 0
AddsFresh known flow count old new = AddsEdges old (IsFreshBelow known flow count) new
