use Rattle.cfi_fits.specs.inner.Nearest.{AreLinksOf}
use Rattle.cfi_fits.proofs.widening.links_of.Given as goal

abbrev pub invariant-loop-place : goal.invariant-loop-place
invariant-loop-place l = AreLinksOf l.signatures l.nearest l.place l.links.items
