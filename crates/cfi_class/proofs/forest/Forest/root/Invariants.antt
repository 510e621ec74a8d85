use Rattle.std.proofs.Common.{◌≡◌, ◌≤◌, length}
use Rattle.cfi_class.specs.inner.Forest.{IsForest, HasSameRoots, root_of}
use Rattle.cfi_class.proofs.forest.Forest.root.Given as goal

abbrev pub invariant-loop-at : goal.invariant-loop-at
invariant-loop-at l = record {
  forest : IsForest l.self-inside.parents.items;
  len : length l.self-inside.parents.items ≡ length l.initial.self-inside.parents.items;
  low : l.at ≤ l.node;
  way : root_of l.initial.self-inside.parents.items l.at ≡ root_of l.initial.self-inside.parents.items l.node;
  roots : HasSameRoots l.initial.self-inside.parents.items l.self-inside.parents.items;
}

abbrev pub decreases-loop-at : goal.decreases-loop-at
decreases-loop-at l = l.at
