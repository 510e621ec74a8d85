use Rattle.std.proofs.Common.{◌≡◌, ◌++◌, take}
use Rattle.cfi_flow.proofs.fans.add_row.Given as goal

abbrev pub invariant-loop-number : goal.invariant-loop-number
invariant-loop-number l = l.numbers.items ≡ l.fn.numbers.items ++ take l.number-index l.row
