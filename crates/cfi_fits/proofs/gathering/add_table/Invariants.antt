use Rattle.cfi_fits.specs.inner.Signatures.{AreGathered}
use Rattle.cfi_fits.proofs.gathering.add_table.Given as goal

abbrev pub invariant-loop-a : goal.invariant-loop-a
invariant-loop-a l = AreGathered l.book l.classes l.table l.a l.signatures.items
