use Rattle.cfi_types.specs.inner.Keeping.{KeepEqual}
use Rattle.cfi_types.proofs.sifting.sifted.Given as goal

abbrev pub invariant-loop : goal.invariant-loop
invariant-loop l = KeepEqual l.nodes l.classes.items
