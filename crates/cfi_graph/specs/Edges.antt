-- Lists of direct edges, by slot and then by address, each once.
use Rattle.std.specs.Prelude.{ℕ, ◌+◌, ◌*◌, List, length, sum_by}
use Rattle.cfi_word.specs.declared.lists.Edge.{Edge}
use Rattle.cfi_word.specs.Chain.{Chain}
use Rattle.cfi_aux.specs.declared.placed.Placed.{Placed}
use Rattle.cfi_aux.specs.declared.records.Kind.{Kind}
use Rattle.cfi_aux.specs.declared.records.Kind.TheVariants as kinds
use Rattle.cfi_flow.specs.Fans.{IsListed}
use Rattle.cfi_flow.specs.Order.{AreInOrder}
use Rattle.cfi_graph.specs.Direct.{DirectEdge}
use Rattle.cfi_graph.specs.Reading.{type_count}

-- all direct edges of the modules
pub record AreDirectEdges (ms : List Placed) (edges : List Edge) : Type 0 where
  pub sound : (slot address : ℕ) → IsListed edges slot address → DirectEdge ms slot address
  pub whole : (slot address : ℕ) → DirectEdge ms slot address → IsListed edges slot address
  pub order : AreInOrder edges

-- direct edges of the modules whose chains join what any of their edges joins
pub record SpanDirectEdges (ms : List Placed) (edges : List Edge) : Type 0 where
  pub sound : (slot address : ℕ) → IsListed edges slot address → DirectEdge ms slot address
  pub whole : (slot address : ℕ) → DirectEdge ms slot address → Chain (IsListed edges) slot address
  pub order : AreInOrder edges

-- how many entries a branch lists
abbrev pub entry_count : Kind → ℕ
entry_count (kinds.Call node) = 0
entry_count (kinds.Tail node) = 0
entry_count kinds.Return = 0
entry_count (kinds.Switch entries) = length entries
entry_count (kinds.Import name cell) = 0

-- how much a module tells at most of where control may go: one fact for each word of its code, two for each function,
-- and one for each entry that a branch lists
abbrev pub told_most : Placed → ℕ
told_most m = length m.words + 2 * length m.functions + sum_by entry_count m.branches

-- how many links the flow of modules has at most: what each of them tells, and two for each node of their types
abbrev pub links_most : List Placed → ℕ
links_most ms = sum_by told_most ms + 2 * type_count ms
