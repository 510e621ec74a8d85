use Rattle.std.proofs.Common.{◌≡◌, ◌∷◌, ◌++◌, map, take, get_or}
use Rattle.cfi_type_table.specs.Kind.{numbers_of}
use Rattle.cfi_types.proofs.leader.key.Given as goal

abbrev pub invariant-loop-place : goal.invariant-loop-place
invariant-loop-place l =
    l.key.items ≡ l.class ∷ l.node.kind ∷
    (numbers_of l.node ++ map (λ n. get_or l.classes n 0) (take l.place l.named))
