use Rattle.std.proofs.Common.{◌≡◌, ℕ, ◌+◌, ◌<◌, length, get_or}
use Rattle.cfi_policy.specs.declared.group.Group.{Group}
use Rattle.cfi_policy.specs.inner.ByClass.{IsClassGroup}
use Rattle.cfi_policy.proofs.by_class.class_groups.Given as goal

abbrev pub invariant-loop-class : goal.invariant-loop-class
invariant-loop-class l = record {
  len : length l.groups.items ≡ l.class;
  each : (k : ℕ) (d : Group) → k < l.class
      → IsClassGroup l.labels.tary l.labels.bary (k + 1) (get_or l.groups.items k d);
}
