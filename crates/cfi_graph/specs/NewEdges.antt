-- The direct edges that more modules bring.
use Rattle.std.specs.Prelude.{ℕ, List}
use Rattle.cfi_word.specs.declared.lists.Edge.{Edge}
use Rattle.cfi_aux.specs.declared.placed.Placed.{Placed}
use Rattle.cfi_flow.specs.Fans.{IsListed}
use Rattle.cfi_flow.specs.Order.{AreInOrder}
use Rattle.cfi_graph.specs.Direct.{DirectEdge}

-- a direct edge of the modules that is none of the old ones
pub record IsNewEdge (old ms : List Placed) (slot address : ℕ) : Type 0 where
  pub edge : DirectEdge ms slot address
  pub new : DirectEdge old slot address → ⊥

-- all of these, by slot and then by address, each once
pub record AreNewEdges (old ms : List Placed) (edges : List Edge) : Type 0 where
  pub sound : (slot address : ℕ) → IsListed edges slot address → IsNewEdge old ms slot address
  pub whole : (slot address : ℕ) → IsNewEdge old ms slot address → IsListed edges slot address
  pub order : AreInOrder edges
