use Rattle.std.proofs.Common.{◌≡◌, ◌++◌, ◌+◌, filter, length}
use Rattle.rv_names.specs.Names.{is_local, is_seen, in_order}
use Rattle.rv_names.proofs.names.Names.in_order.Given as goal

-- what was kept stands before what is left to keep, and all are as many as there were
abbrev pub invariant-loop-entry : goal.invariant-loop-entry
invariant-loop-entry l =
    (l.names ++ filter is_local l.entry-iterator.rest.items ≡ filter is_local l.fn.self)
    × (l.seen.items ++ filter is_seen l.entry-iterator.rest.items ≡ filter is_seen l.fn.self)
    × (length l.names + length l.seen.items + length l.entry-iterator.rest.items ≡ length l.fn.self)

abbrev pub invariant-loop-entry-2 : goal.invariant-loop-entry-2
invariant-loop-entry-2 l =
    (l.names ++ l.entry-iterator.rest.items ≡ in_order l.fn.self)
    × (length l.names + length l.entry-iterator.rest.items ≡ length l.fn.self)
