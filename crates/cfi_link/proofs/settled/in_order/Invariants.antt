use Rattle.std.proofs.Common.{◌≡◌, ◌++◌, not, filter}
use Rattle.cfi_link.specs.Chosen.{is_local_symbol, in_order}
use Rattle.cfi_link.proofs.settled.in_order.Given as goal

-- what was kept stands before what is left to keep
abbrev pub invariant-loop-symbol : goal.invariant-loop-symbol
invariant-loop-symbol l =
    (l.locals.items ++ filter is_local_symbol l.symbol-iterator.rest.items ≡ filter is_local_symbol l.fn.symbols.items)
    × (l.others.items ++ filter (λ s. not (is_local_symbol s)) l.symbol-iterator.rest.items
    ≡ filter (λ s. not (is_local_symbol s)) l.fn.symbols.items)

abbrev pub invariant-loop-symbol-2 : goal.invariant-loop-symbol-2
invariant-loop-symbol-2 l = l.locals.items ++ l.symbol-iterator.rest.items ≡ in_order l.fn.symbols.items
