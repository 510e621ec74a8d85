use Rattle.std.proofs.Common.{◌≡◌, ℕ, List, take, IsTrue}
use Rattle.cfi_graph.specs.Named.{entry_among}
use Rattle.cfi_graph.specs.inner.Imports.{imports_in}
use Rattle.cfi_graph.specs.inner.Names.{has_name}
use Rattle.cfi_graph.proofs.imports.imports_named.Given as goal

abbrev pub invariant-loop-placed : goal.invariant-loop-placed
invariant-loop-placed l = (name : List ℕ) → IsTrue (has_name l.names name) → imports_in l.imports name
    ≡ entry_among (take l.placed-index l.modules) name
