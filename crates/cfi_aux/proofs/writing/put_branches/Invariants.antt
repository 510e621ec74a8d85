use Rattle.std.proofs.Common.{◌≡◌, ◌++◌, take}
use Rattle.std.specs.List.{flat_map}
use Rattle.cfi_aux.specs.Records.{branch_bytes}
use Rattle.cfi_aux.proofs.writing.put_branches.Given as goal

abbrev pub invariant-loop-branch : goal.invariant-loop-branch
invariant-loop-branch l =
    l.out.items ≡ l.fn.out.items ++ flat_map branch_bytes (take l.branch-index l.branches)
