use Rattle.std.proofs.Common.{◌≡◌, drop}
use Rattle.cfi_types.specs.inner.Extending.{next_after}
use Rattle.cfi_fits.proofs.gathering.next_after.Given as goal

abbrev pub invariant-loop-number : goal.invariant-loop-number
invariant-loop-number l = next_after l.fn.next l.row ≡ next_after l.next (drop l.number-index l.row)
