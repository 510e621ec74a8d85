use Rattle.cfi_fits.specs.inner.Nearest.{IsCandidate}
use Rattle.cfi_fits.proofs.NearestLemmas.{height}
use Rattle.cfi_fits.proofs.nearest.nearest_of.Given as goal

abbrev pub invariant-loop-candidate : goal.invariant-loop-candidate
invariant-loop-candidate l = IsCandidate l.signatures l.place l.candidate

abbrev pub decreases-loop-candidate : goal.decreases-loop-candidate
decreases-loop-candidate l = height l.candidate
