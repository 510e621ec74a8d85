use Rattle.std.proofs.Common.{◌≡◌, [], map, replicate}
use Rattle.cfi_types.proofs.lists.Lists.with_room.Given as goal

abbrev pub invariant-loop-number : goal.invariant-loop-number
invariant-loop-number g l = map (λ row. row.items) l.rows.items ≡ replicate l.number []
