use Rattle.std.proofs.Common.{All}
use Rattle.cfi_class.specs.Labels.{IsEdgeWithin}
use Rattle.cfi_calls.proofs.classes.edges_of.Given as goal

abbrev pub invariant-loop-branch : goal.invariant-loop-branch
invariant-loop-branch l = All (IsEdgeWithin l.slots 1024) l.edges.items
