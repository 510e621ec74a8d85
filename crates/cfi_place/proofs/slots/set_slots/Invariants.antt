use Rattle.std.proofs.Common.{◌-◌, length}
use Rattle.cfi_place.proofs.SlotLemmas.{Reads}
use Rattle.cfi_place.proofs.slots.set_slots.Given as goal

abbrev pub invariant-units : goal.invariant-units
invariant-units l = Reads l.source l.fn.slot l.initial.words l.at l.slot l.words

abbrev pub decreases-units : goal.decreases-units
decreases-units l = length l.source - l.at
