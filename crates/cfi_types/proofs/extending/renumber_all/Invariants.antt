use Rattle.std.proofs.Common.{◌≡◌, map, take}
use Rattle.cfi_types.specs.inner.Extending.{renumbered}
use Rattle.cfi_types.proofs.extending.renumber_all.Given as goal

abbrev pub invariant-loop-own : goal.invariant-loop-own
invariant-loop-own l = l.numbers.items ≡ map (renumbered l.back l.next) (take l.own-index l.row)
