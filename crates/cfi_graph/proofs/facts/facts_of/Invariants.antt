use Rattle.std.proofs.Common.{◌≤◌, [], length, take}
use Rattle.std.specs.Prelude.{sum_by}
use Rattle.cfi_graph.specs.Edges.{told_most}
use Rattle.cfi_graph.specs.Facts.{Adds}
use Rattle.cfi_graph.specs.inner.Imports.{imports_in}
use Rattle.cfi_graph.proofs.AddsLemmas.{TellsBelow}
use Rattle.cfi_graph.proofs.TellLemmas.{OwnerTells}
use Rattle.cfi_graph.proofs.facts.facts_of.Given as goal

abbrev pub invariant-loop-number : goal.invariant-loop-number
invariant-loop-number l = record {
  adds : Adds [] l.facts.items (TellsBelow l.number (OwnerTells l.modules (imports_in l.imports) l.classes));
  few : length l.facts.items ≤ sum_by told_most (take l.number l.modules);
}
