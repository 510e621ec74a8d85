use Rattle.std.proofs.Common.{◌≡◌, length}
use Rattle.cfi_class.specs.inner.Forest.{HasSameRoots}
use Rattle.cfi_class.specs.inner.Renumbering.{AreRenumbered}
use Rattle.cfi_class.proofs.RenumberingLemmas.{IsNextNumber}
use Rattle.cfi_class.proofs.renumbering.number_kept_slots.Given as goal

abbrev pub invariant-loop-slot : goal.invariant-loop-slot
invariant-loop-slot l = record {
  place : length l.numbers.items ≡ l.slot;
  len : length l.forest ≡ length l.initial.forest;
  roots : HasSameRoots l.initial.forest l.forest;
  numbers : AreRenumbered l.initial.forest l.bary l.used l.taken l.numbers.items;
  next : IsNextNumber l.initial.forest l.bary l.used l.taken l.numbers.items l.next;
}
