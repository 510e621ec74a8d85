use Rattle.std.proofs.Common.{◌≡◌, drop}
use Rattle.cfi_types.specs.inner.Extending.{back_from}
use Rattle.cfi_types.proofs.extending.put_back.Given as goal

abbrev pub invariant-loop-a : goal.invariant-loop-a
invariant-loop-a l = back_from l.fn.back.items l.own l.kept ≡ back_from l.back.items (drop l.a l.own) (drop l.a l.kept)
