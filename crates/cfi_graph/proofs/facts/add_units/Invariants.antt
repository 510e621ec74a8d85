use Rattle.std.proofs.Common.{◌+◌, ◌≤◌, length, take}
use Rattle.std.specs.Prelude.{sum_by}
use Rattle.cfi_graph.specs.Facts.{IsUnitFact, Adds}
use Rattle.cfi_graph.specs.inner.Imports.{imports_in}
use Rattle.cfi_graph.specs.inner.Told.{unit_told}
use Rattle.cfi_graph.proofs.AddsLemmas.{TellsBelow}
use Rattle.cfi_graph.proofs.TellLemmas.{SpotTells}
use Rattle.cfi_graph.proofs.facts.add_units.Given as goal

abbrev pub invariant-loop-spot : goal.invariant-loop-spot
invariant-loop-spot l = record {
  adds : Adds l.fn.facts.items l.facts.items (TellsBelow l.spot-index (SpotTells (IsUnitFact (imports_in l.imports) l.classes l.number l.placed) l.spot-items));
  few : length l.facts.items
      ≤ length l.fn.facts.items + sum_by (λ s. unit_told l.placed s.unit) (take l.spot-index l.spot-items);
}
