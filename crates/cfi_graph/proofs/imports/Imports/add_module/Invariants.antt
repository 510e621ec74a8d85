use Rattle.std.proofs.Common.{◌≡◌, ℕ, List, take}
use Rattle.std.specs.Option.{option_or}
use Rattle.cfi_graph.specs.Named.{first_given, entry_by}
use Rattle.cfi_graph.specs.inner.Imports.{imports_in}
use Rattle.cfi_graph.proofs.imports.Imports.add_module.Given as goal

abbrev pub invariant-loop-function : goal.invariant-loop-function
invariant-loop-function l = (name : List ℕ) → imports_in l.self name
    ≡ option_or (imports_in l.fn.self name) (first_given (entry_by l.placed name) (take l.function-index l.placed.functions))
