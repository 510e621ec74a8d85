use Rattle.cfi_types.specs.inner.Extending.{AreBack}
use Rattle.cfi_types.proofs.extending.back_of.Given as goal

abbrev pub invariant-loop-place : goal.invariant-loop-place
invariant-loop-place l = AreBack l.own l.kept l.numbers l.place l.back.items
