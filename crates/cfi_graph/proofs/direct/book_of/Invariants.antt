use Rattle.std.proofs.Common.{◌≡◌, take}
use Rattle.cfi_graph.specs.Reading.{tables_of}
use Rattle.cfi_graph.proofs.direct.book_of.Given as goal

abbrev pub invariant-loop-placed : goal.invariant-loop-placed
invariant-loop-placed l = l.book ≡ tables_of (take l.placed-index l.modules)
