use Rattle.std.proofs.Common.{◌+◌, ◌*◌, ◌≤◌, length}
use Rattle.cfi_graph.specs.Facts.{Adds}
use Rattle.cfi_graph.proofs.AddsLemmas.{TellsBelow}
use Rattle.cfi_graph.proofs.TellLemmas.{NumberTells}
use Rattle.cfi_graph.proofs.facts.add_functions.Given as goal

abbrev pub invariant-loop-function : goal.invariant-loop-function
invariant-loop-function l = record {
  adds : Adds l.fn.facts.items l.facts.items (TellsBelow l.function-index (NumberTells l.classes l.number l.placed));
  few : length l.facts.items ≤ length l.fn.facts.items + 2 * l.function-index;
}
