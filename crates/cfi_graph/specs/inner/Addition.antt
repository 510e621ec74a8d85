-- What a module adds to the links of those before it.
use Rattle.std.specs.Prelude.{◌≡◌, ◌≤◌, ◌++◌, ◌∷◌, [], List}
use Rattle.cfi_aux.specs.declared.placed.Placed.{Placed}
use Rattle.cfi_flow.specs.Flow.{IsSound}
use Rattle.cfi_flow.specs.Kept.{Kept, IsExtended}
use Rattle.cfi_graph.specs.KeptGraph.{Graph, IsGraphOf}
use Rattle.cfi_graph.specs.declared.addition.Addition.{Addition}

-- with it the links of the modules become those of the modules and the new one
pub record IsAddition (ms : List Placed) (m : Placed) (old : Graph) (more : Addition) : Type 0 where
  pub sound : IsSound more.flow
  pub nodes : old.flow.nodes ≤ more.flow.nodes
  pub graph : (flow : Kept) → IsExtended old.flow more.flow flow
      → IsGraphOf (ms ++ m ∷ [])
      (record { classes = more.classes; wider = old.wider ++ more.wider.items; flow = flow })

-- the links with what is added
pub record HasAddition (old : Graph) (more : Addition) (new : Graph) : Type 0 where
  pub classes : new.classes ≡ more.classes
  pub wider : new.wider ≡ old.wider ++ more.wider.items
  pub flow : IsExtended old.flow more.flow new.flow
