use Rattle.std.proofs.Common.{◌≡◌, ◌+◌, ◌≤◌, ◌++◌, drop, length}
use Rattle.cfi_link.specs.Chosen.{numbers_from, numbers_of}
use Rattle.cfi_link.proofs.numbers.numbers_of.Given as goal

abbrev pub invariant-loop-symbol : goal.invariant-loop-symbol
invariant-loop-symbol l =
    (l.local ≤ l.symbol-index) × (l.other ≤ length l.symbols + l.symbol-index)
    × (l.numbers.items ++ numbers_from l.local l.other (drop l.symbol-index l.symbols) ≡ numbers_of l.symbols)
