use Rattle.std.proofs.Common.{◌≡◌, ◌+◌, ◌++◌, map, length}
use Rattle.std.specs.List.{enumerate_from}
use Rattle.cfi_link.specs.Chosen.{settled_symbol, settled}
use Rattle.cfi_link.specs.inner.Kept.{chosen_by}
use Rattle.cfi_link.proofs.settled.settled.Given as goal

abbrev pub invariant-loop-symbol : goal.invariant-loop-symbol
invariant-loop-symbol l =
    (l.k + length l.symbol-iterator.rest.items ≡ length l.fn.symbols.items)
    × (l.made.items ++ map (settled_symbol (chosen_by l.definitions)) (enumerate_from l.k l.symbol-iterator.rest.items)
    ≡ settled (chosen_by l.definitions) l.fn.symbols.items)
