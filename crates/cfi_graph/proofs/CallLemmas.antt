-- What an import means is one of the modules' functions.
use Rattle.std.proofs.Common.{List, ℕ}
use Rattle.cfi_aux.specs.declared.placed.Placed.{Placed}
use Rattle.cfi_aux.specs.declared.placed.PlacedFunction.{PlacedFunction}
use Rattle.cfi_graph.specs.Calls.{IsFunction, IsImported}
use Rattle.cfi_graph.proofs.BoundLemmas.{contains_at}

pub imported_function : (ms : List Placed) (name : List ℕ) (n : Placed) (f : PlacedFunction) → IsImported ms name n f
    → IsFunction ms n f
imported_function ms name n f is = record {
  placed = contains_at ms is.number n is.is;
  function = contains_at n.functions is.place f is.has;
}
