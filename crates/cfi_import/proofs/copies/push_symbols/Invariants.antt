use Rattle.std.proofs.Common.{◌≡◌, ◌++◌, take}
use Rattle.cfi_import.proofs.copies.push_symbols.Given as goal

abbrev pub invariant-loop-symbol : goal.invariant-loop-symbol
invariant-loop-symbol l = l.out.items ≡ l.fn.out.items ++ take l.symbol-index l.symbols
