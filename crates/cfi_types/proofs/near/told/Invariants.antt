use Rattle.std.proofs.Common.{IsTrue, All, take}
use Rattle.std.specs.BTreeSet.{contains}
use Rattle.std.specs.Ordering.{nat_cmp}
use Rattle.cfi_types.proofs.near.told.Given as goal

abbrev pub invariant-loop-digest : goal.invariant-loop-digest
invariant-loop-digest l = All (λ digest. IsTrue (contains nat_cmp l.told digest)) (take l.digest-index l.digest-items)
