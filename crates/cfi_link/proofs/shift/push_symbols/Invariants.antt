use Rattle.std.proofs.Common.{◌≡◌, ◌++◌, map, take}
use Rattle.cfi_link.specs.Joined.{symbol_at}
use Rattle.cfi_link.proofs.shift.push_symbols.Given as goal

abbrev pub invariant-loop-symbol : goal.invariant-loop-symbol
invariant-loop-symbol l =
    l.out.items ≡ l.fn.out.items ++ map (symbol_at l.start) (take l.symbol-index l.symbols)
