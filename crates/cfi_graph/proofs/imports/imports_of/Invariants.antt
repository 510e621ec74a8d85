use Rattle.std.proofs.Common.{◌≡◌, ℕ, List, take}
use Rattle.cfi_graph.specs.Named.{entry_among}
use Rattle.cfi_graph.specs.inner.Imports.{imports_in}
use Rattle.cfi_graph.proofs.imports.imports_of.Given as goal

abbrev pub invariant-loop-placed : goal.invariant-loop-placed
invariant-loop-placed l =
    (name : List ℕ) → imports_in l.imports name ≡ entry_among (take l.placed-index l.modules) name
