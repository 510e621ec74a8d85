use Rattle.std.proofs.Common.{◌≡◌, map, take}
use Rattle.cfi_graph.specs.HandMade.{function_of}
use Rattle.cfi_calls.proofs.made.functions_of.Given as goal

abbrev pub invariant-loop-row : goal.invariant-loop-row
invariant-loop-row l = l.functions.items ≡ map function_of (take l.row-index l.rows)
