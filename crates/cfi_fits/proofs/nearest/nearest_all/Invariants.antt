use Rattle.cfi_fits.specs.inner.Nearest.{AreNearest}
use Rattle.cfi_fits.proofs.nearest.nearest_all.Given as goal

abbrev pub invariant-loop-place : goal.invariant-loop-place
invariant-loop-place l = AreNearest l.signatures l.nearest.items l.place
