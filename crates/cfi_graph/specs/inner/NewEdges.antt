-- The flows of some modules and of more.
use Rattle.std.specs.Prelude.{List}
use Rattle.cfi_aux.specs.declared.placed.Placed.{Placed}
use Rattle.cfi_flow.specs.Flow.{IsSound}
use Rattle.cfi_flow.specs.Fresh.{IsPartOf, IsToldOnce}
use Rattle.cfi_flow.specs.declared.links.Flow.{Flow}
use Rattle.cfi_graph.specs.inner.Flows.{GoesAs}

-- the flow of all modules, and the part of it that is the flow of the old ones
pub record HaveFlows (old ms : List Placed) (flow known : Flow) : Type 0 where
  pub sound : IsSound flow
  pub part : IsPartOf known flow
  pub once : IsToldOnce flow
  pub goes : GoesAs ms flow
  pub goes_old : GoesAs old known
