use Rattle.std.proofs.Common.{◌≡◌, ◌≤◌}
use Rattle.elf_read.specs.inner.Targets.{kept_in}
use Rattle.elf_read.proofs.limits.kept_of.Given as goal

abbrev pub invariant-loop-i : goal.invariant-loop-i
invariant-loop-i l = (l.kept ≡ kept_in l.entries l.i) × (l.kept ≤ l.i)
