use Rattle.std.proofs.Common.{◌≡◌, ◌+◌, ◌++◌, map, take}
use Rattle.cfi_type_table.specs.Kind.{numbers_of}
use Rattle.cfi_link.proofs.shift.node_at.Given as goal

abbrev pub invariant-loop-k : goal.invariant-loop-k
invariant-loop-k l =
    l.made.items ≡ numbers_of l.node ++ map (λ k. l.start.types + k) (take l.k-index l.k-items)
