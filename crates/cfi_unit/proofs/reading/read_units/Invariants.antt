use Rattle.std.proofs.Common.{◌-◌, length}
use Rattle.cfi_unit.proofs.ReadLemmas.{IsReadTo}
use Rattle.cfi_unit.proofs.reading.read_units.Given as goal

abbrev pub invariant-loop-at : goal.invariant-loop-at
invariant-loop-at l = IsReadTo l.words l.at l.spots.items

abbrev pub decreases-loop-at : goal.decreases-loop-at
decreases-loop-at l = length l.words - l.at
