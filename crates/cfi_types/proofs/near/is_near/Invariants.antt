use Rattle.std.proofs.Common.{ℕ, ◌≤◌, IsTrue}
use Rattle.std.specs.BTreeSet.{contains}
use Rattle.std.specs.Ordering.{nat_cmp}
use Rattle.cfi_types.specs.inner.Extending.{IsNew}
use Rattle.cfi_types.proofs.near.is_near.Given as goal

-- no node before this one is new and told
abbrev pub invariant-loop-a : goal.invariant-loop-a
invariant-loop-a l =
    (a : ℕ) → IsNew (λ digest. IsTrue (contains nat_cmp l.told digest)) l.next l.row l.digests a → l.a ≤ a
