use Rattle.std.proofs.Common.{◌≡◌}
use Rattle.cfi_types.specs.inner.Extending.{next_at}
use Rattle.cfi_fits.specs.inner.Signatures.{AreGathered}
use Rattle.cfi_fits.proofs.gathering.gathered.Given as goal

abbrev pub invariant-loop-table : goal.invariant-loop-table
invariant-loop-table l =
    AreGathered l.book l.classes l.table 0 l.signatures.items × (l.next ≡ next_at l.classes l.table)
