use Rattle.std.proofs.Common.{◌≡◌, length}
use Rattle.cfi_class.specs.inner.Forest.{HasSameRoots}
use Rattle.cfi_class.proofs.NumberingLemmas.{NumbersSoFar}
use Rattle.cfi_class.proofs.numbering.number_slots.Given as goal

abbrev pub invariant-loop-slot : goal.invariant-loop-slot
invariant-loop-slot l = record {
  place : length l.numbers.items ≡ l.slot;
  len : length l.forest ≡ length l.initial.forest;
  roots : HasSameRoots l.initial.forest l.forest;
  numbers : NumbersSoFar l.initial.forest l.used l.numbers.items l.count;
}
