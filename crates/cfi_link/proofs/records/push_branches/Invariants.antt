use Rattle.std.proofs.Common.{◌≡◌, ◌++◌, map, take}
use Rattle.cfi_link.specs.Joined.{branch_at}
use Rattle.cfi_link.proofs.records.push_branches.Given as goal

abbrev pub invariant-loop-branch : goal.invariant-loop-branch
invariant-loop-branch l =
    l.out.items ≡ l.fn.out.items ++ map (branch_at l.start) (take l.branch-index l.branches)
