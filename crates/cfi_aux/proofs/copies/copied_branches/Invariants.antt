use Rattle.std.proofs.Common.{◌≡◌, take}
use Rattle.cfi_aux.proofs.copies.copied_branches.Given as goal

abbrev pub invariant-loop-kind : goal.invariant-loop-kind
invariant-loop-kind l = l.made.items ≡ take l.kind-index l.branches
